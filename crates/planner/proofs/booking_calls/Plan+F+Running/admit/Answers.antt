use Rattle.std.proofs.Common.{◌<◌, true, false, leb, [], ◌∷◌, refl, ap, ◌∙◌, subst, subst₂, rules}
use Rattle.std.proofs.lemmas.Bool.{le-leb, lt-leb, cond-true, cond-false}
use Rattle.std.proofs.lemmas.Result.{err_from_is_err_and}
use Rattle.planner.specs.declared.slots.SlotTable.{SlotTable}
use Rattle.planner.specs.Bookings.{booking_at}
use Rattle.planner.specs.FlowSets.{members}
use Rattle.planner.specs.LinkSets.{crossing}
use Rattle.planner.specs.Shown.{shows}
use Rattle.planner.specs.Slots.{count, free, Given}
use Rattle.planner.specs.Steps.{enrol_checks, valid_slots}
use Rattle.planner.specs.Tables.{holds}
use Rattle.planner.proofs.Admitting.{beside_is, owned_after, within_after}
use Rattle.planner.proofs.Checks.{may_book, after_passing}
use Rattle.planner.proofs.Memory.{no_booking, none_shares}
use Rattle.planner.proofs.booking_calls.Plan+F+Running.admit.Goals as goal

pub invariant_of-give : goal.invariant_of-give
invariant_of-give g c =
    let p = c.args.self.now in
    let n = c.in_ok-number.number.number in
    let told = c.in_ok-number.ensures in
    let may = may_book (g.F.Fabric.meaning p.fabric) p.period.slots (shows g.F.Fabric.meaning false p).booked c.args.number c.args.flow told.0 in
    let none = ap (booking_at p.bookings) told.1 ∙ no_booking (booking_at p.bookings c.args.number) may.free in
    record { not_beside = c.met_by-beside.ensures n ∙ none_shares (crossing c.in_ok-number.booking.links) (booking_at p.bookings n) none }

pub returns-in_err-give : goal.returns-in_err-give
returns-in_err-give g c =
    let p = c.args.self.now in
    let s = shows g.F.Fabric.meaning true p in
    let f = c.args.flow in
    let told = c.in_ok-number.ensures in
    let beside = beside_is p.bookings (members c.met_by-beside.result) (crossing c.in_ok-number.booking.links) (s.meaning.crossed f.ends) c.met_by-beside.ensures told.3 in
    let refused = c.in_err-give.ensures in
    let few : count (valid_slots s f) s.period < f.demand = subst (λ k. count (free (holds p.table) 64 k) s.period < f.demand) beside refused.1 in
    let fault = err_from_is_err_and c.from_residual-in_err-give.result c.from_residual-in_err-give.ensures.1 in
    rw (fault.1, fault.2) (
      (14, after_passing (enrol_checks s c.args.number f) ((14, leb f.demand (count (valid_slots s f) s.period)) ∷ []) told.0 ∙ cond-false _ _ _ (lt-leb f.demand _ few), refl),
      ap (λ (t : SlotTable). record { meaning = s.meaning; period = s.period; running = true; booked = s.booked; route = s.route; holds = holds t }) refused.0,
    )

pub invariant_of-self-2 : goal.invariant_of-self-2
invariant_of-self-2 g c =
    let p = c.args.self.now in
    let given = c.in_ok-give.ensures in
    record {
      owned = owned_after p.bookings c.insert.new.self (holds p.table) (holds c.give.new.self) c.in_ok-number.number.number c.in_ok-number.booking _ _ _ given c.insert.ensures p.owned;
      within = within_after p.bookings c.insert.new.self (holds p.table) (holds c.give.new.self) c.in_ok-number.number.number c.in_ok-number.booking _ _ _ given c.insert.ensures p.within;
    }

pub returns : goal.returns
returns g c =
    let p = c.args.self.now in
    let s = shows g.F.Fabric.meaning true p in
    let f = c.args.flow in
    let told = c.in_ok-number.ensures in
    let beside = beside_is p.bookings (members c.met_by-beside.result) (crossing c.in_ok-number.booking.links) (s.meaning.crossed f.ends) c.met_by-beside.ensures told.3 in
    let given = subst₂ (λ n k. Given (holds p.table) (holds c.give.new.self) 64 n k f.demand s.period) told.1 beside c.in_ok-give.ensures in (
      after_passing (enrol_checks s c.args.number f) ((14, leb f.demand (count (valid_slots s f) s.period)) ∷ []) told.0 ∙ cond-true _ _ _ (le-leb f.demand _ given.enough),
      record {
        frame = record { meaning = refl; period = refl; running = refl };
        booked = search rules;
        route = search rules;
        holds = given.others;
      },
      given.earliest,
    )
