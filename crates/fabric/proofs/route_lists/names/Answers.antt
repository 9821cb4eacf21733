use Rattle.std.proofs.Common.{◌==◌, sym, ap, ◌∙◌, eq-eqb, ne_eqb, arith}
use Rattle.std.proofs.lemmas.Bool.{or_from}
use Rattle.std.proofs.lemmas.List.{take_all}
use Rattle.std.proofs.lemmas.List.Folds.{list_any_at, list_any_more}
use Rattle.fabric.specs.RouteLists.{among}
use Rattle.fabric.proofs.route_lists.names.Goals as goal

pub returns-then-from-link : goal.returns-then-from-link
returns-then-from-link c =
    sym (list_any_at (λ name. name == c.args.link) c.args.links.now c.loop-byte.byte-index 0 (omega arith) (eq-eqb _ c.args.link (sym c.from.ensures ∙ c.if-from-link.true)))

pub loop-byte-preserved : goal.loop-byte-preserved
loop-byte-preserved c =
    list_any_more (λ name. name == c.args.link) c.args.links.now c.loop-byte.byte-index 0 (omega arith)
    ∙ or_from _ _ c.loop-byte.invariant (ne_eqb _ c.args.link (λ same. c.if-from-link.false (c.from.ensures ∙ same)))

pub returns : goal.returns
returns c = sym (ap (among c.args.link) (sym (take_all c.loop-byte.byte-index c.args.links.now (omega arith))) ∙ c.loop-byte.invariant)
