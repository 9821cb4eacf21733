-- What a `?` hands on.
use Rattle.std.proofs.Common.{◌≡◌, Result, MatchResult}
use Rattle.std.specs.Result.{IsErrAnd}
use Rattle.std.proofs.lemmas.Result.{err_from_is_err_and}
use Rattle.report.specs.declared.misuses.Misuse.{Misuse}

-- what is true of the misuse is true of the result that it makes
pub handed_on : {T : Type 0} (P : T → Type 0) (Q : Misuse → Type 0) (r : Result T Misuse) (e : Misuse) → IsErrAnd r (λ y. y ≡ e) → Q e → MatchResult r P Q
handed_on P Q r e err told = let p = err_from_is_err_and r err in rw (p.1, p.2) told
