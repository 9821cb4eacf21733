use Rattle.std.proofs.Common.{◌<◌, ◌≤◌, length, get_or, ap, ◌∙◌, arith}
use Rattle.decimals.proofs.NumberWords.{first_digit, spells}
use Rattle.decimals.proofs.parse_number.Goals as goal
use Rattle.decimals.proofs.parse_number.Goals.{After-ok, else-bytes-gt1-via-then-bytes-gt1+else-bytes-lt49, else-bytes-gt1-via-else-bytes-gt1}

pub returns-then-bytes-lt49 : goal.returns-then-bytes-lt49
returns-then-bytes-lt49 c =
    let same = c.as_bytes-bytes.ensures.value in
    λ n small e. first_digit n _ small (same ∙ e) c.if-bytes-gt1.true c.if-bytes-lt49.true

plain : (c : After-ok) → 1 < length c.args.word.now → 49 ≤ get_or c.args.word.now 0 0
plain c long =
    let same = c.as_bytes-bytes.ensures.value in
    elim c.else-bytes-gt1.branch [
      | else-bytes-gt1-via-then-bytes-gt1+else-bytes-lt49 w ↦ omega (arith, w.if-bytes-lt49.false, ap (λ l. get_or l 0 0) same)
      | else-bytes-gt1-via-else-bytes-gt1 w ↦ absurd (omega (arith, w.if-bytes-gt1.false, ap length same))
    ]

pub returns : goal.returns
returns c = rw c.ok.ensures.value (spells c.args.word.now (plain c) c.parse.result c.parse.ensures.value.0)
