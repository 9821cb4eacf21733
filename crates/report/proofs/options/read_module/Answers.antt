use Rattle.std.proofs.Common.{arith}
use Rattle.report.proofs.OptionWords.{no_module, module_parts, module_made}
use Rattle.report.proofs.options.read_module.Goals as goal

pub returns-in_err-first : goal.returns-in_err-first
returns-in_err-first c = rw c.from_residual.ensures (no_module c.args.word.now c.in_err-first.ensures.cases)

pub returns-in_err-port : goal.returns-in_err-port
returns-in_err-port c =
    rw c.from_residual-in_err-port.ensures
    (λ spelled.
    let n = (module_parts c.args.word.now (c.in_ok-first.first, c.in_ok-first.second) c.in_ok-first.ensures.cases spelled).0 in
    c.in_err-port.ensures n.0 n.1 n.2)

pub returns-in_err-count : goal.returns-in_err-count
returns-in_err-count c =
    rw c.from_residual-in_err-count.ensures
    (λ spelled.
    let n = (module_parts c.args.word.now (c.in_ok-first.first, c.in_ok-first.second) c.in_ok-first.ensures.cases spelled).1 in
    c.in_err-count.ensures n.0 n.1 n.2)

pub returns : goal.returns
returns c =
    let made = module_made c.args.word.now (c.in_ok-first.first, c.in_ok-first.second) (record { port = c.in_ok-port.port; count = c.in_ok-count.count }) c.in_ok-first.ensures.cases c.in_ok-port.ensures c.in_ok-count.ensures in
    ((omega arith, omega arith), made)
