use Rattle.std.proofs.Common.{◌≡◌, ℕ, ◌^◌, ◌<◌, List, sym, subst, decimal, MatchOption, ◌≢◌}
use Rattle.decimals.proofs.NumberWords.{is_text, ok_cases}
use Rattle.decimals.proofs.read_number.Goals as goal

pub returns-in_err-ok : goal.returns-in_err-ok
returns-in_err-ok c =
    let cases = ok_cases _ _ c.from_utf8.result c.from_utf8.ensures.cases (λ e text. text.0) in
    let none = rw (sym c.in_err-ok.ensures.value) at cases in
    rw c.from_residual.ensures (λ n small e. none (is_text n c.args.word.now small e))

pub returns : goal.returns
returns c =
    let cases = ok_cases _ _ c.from_utf8.result c.from_utf8.ensures.cases (λ e text. text.0) in
    let same = (rw (sym c.in_ok-ok.ensures.value) at cases).0 in
    subst (λ bs. MatchOption c.parse_number.result ((n : ℕ) → n < 2 ^ 16 → bs ≢ decimal n) (λ n. bs ≡ decimal n)) same c.parse_number.ensures
