use Rattle.std.proofs.Common.{◌≡◌, ℕ, Bool, ◌&&◌, filter, vec_items, Decides, IfOk, rules, arith}
use Rattle.std.specs.List.{range_with_len}
use Rattle.std.proofs.lemmas.Result.{IfOk-weaker}
use Rattle.std.proofs.lemmas.Bool.Decides.{same_from_decides, Decides-and}
use Rattle.std.proofs.lemmas.Iterator.{YieldsList-from_range, items_from_collect}
use Rattle.std.proofs.lemmas.Iterator.Consumers.{YieldsList-from_filter}
use Rattle.fabric.specs.Overlaps.{Shared}
use Rattle.report.specs.Links.{Ascending}
use Rattle.report.proofs.AscendingLists.{alike, passing}
use Rattle.report.proofs.links.shared_links.Goals as goal

pub returns : goal.returns
returns g c =
    let m = g.F.Fabric.meaning c.args.fabric.now in
    let one = c.args.one in
    let other = c.args.other in
    let test : ℕ → Bool = λ k. m.crossed one k && m.crossed other k in
    let items : IfOk c.collect.result (λ v. vec_items v ≡ filter test (range_with_len 0 c.links.result)) = items_from_collect c.collect.result c.collect.ensures.ran (YieldsList-from_filter _ test (YieldsList-from_range 0 c.links.result c.links.result c.filter.ensures.source (omega arith)) c.filter.ensures.closure (λ x b q k. let both : Decides b (Shared m one other x) = search rules in (search rules, same_from_decides b (test x) both (Decides-and (m.crossed one x) (m.crossed other x) (λ e. e, λ e. e) (λ e. e, λ e. e))))) in
    let keeps = g.met.F.Fabric.keeps c.args.fabric.now in
    let listed : Ascending (Shared m one other) (filter test (range_with_len 0 c.links.result)) =
    alike
    (λ k h. (Decides-and (m.crossed one k) (m.crossed other k) (λ e. e, λ e. e) (λ e. e, λ e. e)).0 h.2)
    (λ k h. (omega arith, omega (arith, keeps.crosses_below one k h.0, c.links.ensures), (Decides-and (m.crossed one k) (m.crossed other k) (λ e. e, λ e. e) (λ e. e, λ e. e)).1 h))
    (passing test 0 c.links.result) in
    IfOk-weaker c.collect.result _ _ (λ v e. rw e listed) items
