use Rattle.std.proofs.Common.{[], ◌++◌, sym, subst, ⊎_elim, arith}
use Rattle.std.specs.Iterator.Adapters.{zip_first, zip_second}
use Rattle.script.specs.Lines.{LinesOf, left}
use Rattle.session.specs.Parts.{state_of}
use Rattle.session.proofs.Handing.{tells_more}
use Rattle.session.proofs.Turns.{Reaches, reaches_all, reaches_more}
use Rattle.session.proofs.tellers.Teller.run_rest.Goals as goal

pub loop-number-preserved : goal.loop-number-preserved
loop-number-preserved g c =
    let i = c.loop-number.invariant in
    let d = i.told in
    let p = c.in_ok-tell_line.ensures in
    let number = c.in-Some.number in
    let script = left c.args.lines in
    let start = state_of c.args.session in
    let s = state_of c.loop-number.session in
    let t = state_of c.tell_line.new.session in
    let ahead = left (zip_second c.loop-number.number-iterator) in
    let after = left (zip_second c.next.new.self) in
    let steps = c.in-Some.ensures.steps in
    let here = subst (λ k. Reaches script 3 start ahead k s d.0) (sym steps.0.0) d.2 in
    let there = reaches_more script 3 start ahead number s t d.0 p.0 c.in-Some.line.now after here steps.1 p.1 in
    record {
      bounded = omega (arith, steps.1.shorter, steps.0, i.bounded);
      told = (
        d.0 ++ p.0,
        tells_more g.P.Printer.took d.0 p.0 c.args.self.now c.loop-number.self c.tell_line.new.self d.1 p.2,
        subst (λ k. Reaches script 3 start after k t (d.0 ++ p.0)) (sym steps.0.1) there,
      );
    }

pub returns : goal.returns
returns g c =
    let i = c.loop-number.invariant in
    let d = i.told in
    let number = (zip_first c.loop-number.number-iterator).start in
    let ahead = left (zip_second c.loop-number.number-iterator) in
    let none : LinesOf ahead [] = ⊎_elim (λ e. absurd (let stop = e.1.0 in omega (arith, i.bounded))) (λ e. e.1.0) c.in-None.ensures.steps in
    let x = reaches_all (left c.args.lines) 3 (state_of c.args.session) ahead number (state_of c.loop-number.session) d.0 none d.2 in
    (x.0, d.0, x.1, x.2, d.1)
