use Rattle.std.proofs.Common.{sym, ◌∙◌}
use Rattle.std.proofs.lemmas.Result.{err_from_is_err_and}
use Rattle.procedure.specs.Faults.{misfits}
use Rattle.procedure.proofs.Going.{reads_refused}
use Rattle.procedure.proofs.reading.read_whole.Goals as goal

pub returns-then-misfits : goal.returns-then-misfits
returns-then-misfits c = misfits (sym c.misfits.ensures ∙ c.if-misfits.true)

pub returns-in_err-reader : goal.returns-in_err-reader
returns-in_err-reader c =
    let p = err_from_is_err_and c.from_residual.result c.from_residual.ensures.1 in
    rw (p.1, p.2)
    (reads_refused c.args.bytes.now c.in_err-reader.field-0.0 (sym c.misfits.ensures ∙ c.if-misfits.false) c.in_err-reader.ensures)
