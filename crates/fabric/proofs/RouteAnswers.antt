-- From what the parts of `check` find to what it answers.
use Rattle.std.proofs.Common.{◌≡◌, ℕ, ◌+◌, ◌<◌, ◌≤◌, List, ◌++◌, length, get_or, drop, sym, refl, ap, ◌∙◌, subst, arith}
use Rattle.std.specs.List.{flat_map}
use Rattle.fabric.specs.declared.faults.FabricFault.{FabricFault}
use Rattle.fabric.specs.RouteLists.{LawfulRoutes, Accepted, AcceptedWith, encode_route}
use Rattle.fabric.specs.RouteReading.{routes_from, decoded, first_routes, first_end}
use Rattle.fabric.specs.RouteRefusals.{HeaderRule, Kept, Reached, RefusedAt, RefusedBy, stated_terminals, stated_links, stated_routes}
use Rattle.fabric.specs.RouteChecking.{HeaderRead, HeaderBroken, RouteBroken}
use Rattle.fabric.specs.RouteBytes.{drop_routes, length_routes}
use Rattle.fabric.specs.RouteLaws.{lawful_push}
use Rattle.fabric.specs.RouteAccepted.{accepted_from}
use Rattle.fabric.proofs.RouteRefused.{kept_lawful, refused_not_accepted}
use Rattle.fabric.proofs.RouteSteps.{first_routes_more}

-- no route is lawful
pub none_lawful : (t l : ℕ) (bs : List ℕ) → LawfulRoutes t l (first_routes bs 0)
unfolding routes_from
none_lawful t l bs = record { each = tt; distinct = tt }

-- and so is one more whose bytes all keep their rules
pub more_lawful : (bs : List ℕ) (n at : ℕ) → at ≡ first_end bs n → LawfulRoutes (stated_terminals bs) (stated_links bs) (first_routes bs n) → ((k : ℕ) → k < 3 + get_or bs (at + 2) 0 → Kept bs (first_routes bs n) at k) → LawfulRoutes (stated_terminals bs) (stated_links bs) (first_routes bs (n + 1))
more_lawful bs n at e ok kept =
    let one = kept_lawful bs (first_routes bs n) at kept in
    rw (first_routes_more bs n at e) (lawful_push _ _ (first_routes bs n) _ ok one.1 one.2)

pub reached_first : (bs : List ℕ) (n at : ℕ) → ((k : ℕ) → k < 4 → HeaderRule bs k) → at ≡ first_end bs n → at ≤ length bs → LawfulRoutes (stated_terminals bs) (stated_links bs) (first_routes bs n) → Reached bs (first_routes bs n) at
reached_first bs n at header e within ok =
    record {
      header = header;
      written = subst (λ m. drop 7 bs ≡ flat_map encode_route (first_routes bs n) ++ drop m bs) (sym e) (drop_routes bs n 7 (omega arith));
      within = within;
      lawful = ok;
    }

pub refused : (bs : List ℕ) (fault : FabricFault) → RefusedBy bs fault → RefusedBy bs fault × (Accepted bs → ⊥)
refused bs fault r = (r, refused_not_accepted bs r.0 r.2)

pub header_refused : (bs : List ℕ) (fault : FabricFault) → HeaderBroken bs fault → RefusedBy bs fault
header_refused bs fault h = (_, h.4, RefusedAt.in_header h.0 h.1 h.2 h.3 refl)

pub route_refused : (bs : List ℕ) (n at : ℕ) (fault : FabricFault) → Reached bs (first_routes bs n) at → n < stated_routes bs → RouteBroken bs (first_routes bs n) at fault → RefusedBy bs fault
route_refused bs n at fault r below b = (
  at + b.0,
  b.4,
  RefusedAt.in_route (first_routes bs n) at b.0 r (omega (arith, length_routes bs n 7)) b.1 b.2 b.3 refl,
)

pub left_refused : (bs : List ℕ) (n at : ℕ) → Reached bs (first_routes bs n) at → n ≡ stated_routes bs → at < length bs → RefusedAt bs at
left_refused bs n at r all below = RefusedAt.left_over (first_routes bs n) r (length_routes bs n 7 ∙ all) below

pub accepted : (bs : List ℕ) (terminals links routes n at : ℕ) → HeaderRead bs terminals links routes → get_or bs 1 0 < 256 → get_or bs 5 0 < 256 → Reached bs (first_routes bs n) at → at ≡ first_end bs n → n ≡ stated_routes bs → length bs ≤ at → AcceptedWith bs terminals links routes
accepted bs terminals links routes n at read b1 b5 r e all past =
    let whole : first_end bs (stated_routes bs) ≡ length bs = ap (first_end bs) (sym all) ∙ sym e ∙ omega (arith, r.within) in
    let ok = subst (λ m. LawfulRoutes (stated_terminals bs) (stated_links bs) (first_routes bs m)) all r.lawful in
    let is = accepted_from bs read.rules b1 b5 whole ok in
    (decoded bs, is.0, is.1, read.terminals_are, read.links_are, read.routes_are ∙ sym (length_routes bs (stated_routes bs) 7))
