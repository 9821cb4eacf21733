use Rattle.std.proofs.Common.{length, arith}
use Rattle.std.proofs.lemmas.Str.Ascii.{IsAscii-from_reads}
use Rattle.std.proofs.lemmas.Str.{IsUtf8-from_ascii}
use Rattle.labels.proofs.names.spelling.NameDisplay.fmt.Goals as goal

pub unreachable-requires : goal.unreachable-requires
unreachable-requires g c =
    let bytes = c.as_bytes.result.now in
    c.in-Err.ensures.cases.0
    (IsUtf8-from_ascii bytes (IsAscii-from_reads bytes (length bytes) (omega arith) (λ k h. omega (arith, c.as_bytes.ensures.lawful.2 k h))))
