-- What a plan shows, by its parts.
use Rattle.std.proofs.Common.{◌≡◌, ℕ, Bool, Option, sym, ap, ◌∙◌}
use mathlib.Core.Path.{fun_ext}
use Rattle.fabric.specs.Meaning.{Meaning}
use Rattle.planner.specs.declared.flows.Flow.{Flow}
use Rattle.planner.specs.Shown.{Shown}
use Rattle.planner.specs.Steps.{SameFrame}

-- the same fabric, period and state, with other bookings, routes and slots
abbrev pub with_parts : Shown → (ℕ → Option Flow) → (ℕ → ℕ → Bool) → (ℕ → ℕ → Bool) → Shown
with_parts s b r u = record { meaning = s.meaning; period = s.period; running = s.running; booked = b; route = r; holds = u }

abbrev all : Meaning → ℕ → Bool → (ℕ → Option Flow) → (ℕ → ℕ → Bool) → (ℕ → ℕ → Bool) → Shown
all m p x b r u = record { meaning = m; period = p; running = x; booked = b; route = r; holds = u }

pub parts_are : (s t : Shown) (b : ℕ → Option Flow) (r : ℕ → ℕ → Bool) → SameFrame s t → ((k : ℕ) → t.booked k ≡ b k) → ((k link : ℕ) → t.route k link ≡ r k link) → with_parts s b r t.holds ≡ t
parts_are s t b r frame booked route = sym (
    ap (λ m. all m t.period t.running t.booked t.route t.holds) frame.meaning
    ∙ ap (λ p. all s.meaning p t.running t.booked t.route t.holds) frame.period
    ∙ ap (λ x. all s.meaning s.period x t.booked t.route t.holds) frame.running
    ∙ ap (λ q. all s.meaning s.period s.running q t.route t.holds) (fun_ext booked)
    ∙ ap (λ q. all s.meaning s.period s.running b q t.holds) (fun_ext (λ k. fun_ext (route k))))
