use Rattle.std.proofs.Common.{sym, subst}
use Rattle.law.specs.declared.call.Answer.TheVariants.{Done, Entry, Idle, Refused}
use Rattle.cases.specs.declared.outcome.Play.TheVariants.{Move, Reply}
use Rattle.cases.specs.Shows.{model}
use Rattle.rehearsal.specs.Turning.{call_of}
use Rattle.rehearsal.specs.Served.{Turns}
use Rattle.rehearsal.proofs.Turning.{announce_waits, announce_made, announce_refused, tell_waits, tell_made, tell_refused}
use Rattle.rehearsal.proofs.turn.turn_play.Goals as goal

pub returns-in-Ok : goal.returns-in-Ok
returns-in-Ok g c =
    let M = g.S.System.means c.args.case.now.system in
    let m = model g.B.Board.shows c.args.case.now in
    let x = c.in-Ok.field-0 in
    subst (λ t. Turns M m c.args.play (call_of t) (Entry x.rank x.choice) (Reply x.play)) (sym c.in-Announce-Move.is-0)
    (announce_made M m c.args.play c.in-Announce-Move.play x c.in-Announce-Move.is-1 c.in-Ok.ensures)

pub returns-in-Err : goal.returns-in-Err
returns-in-Err g c =
    let M = g.S.System.means c.args.case.now.system in
    let m = model g.B.Board.shows c.args.case.now in
    let x = c.in-Err.field-0 in
    subst (λ t. Turns M m c.args.play (call_of t) (Refused x.fault) (Move x.play)) (sym c.in-Announce-Move.is-0)
    (announce_refused M m c.args.play c.in-Announce-Move.play x c.in-Announce-Move.is-1 c.in-Err.ensures)

pub returns-in-Ok-tell : goal.returns-in-Ok-tell
returns-in-Ok-tell g c =
    let M = g.S.System.means c.args.case.now.system in
    let m = model g.B.Board.shows c.args.case.now in
    let b = c.in-Tell-Reply.reply in
    subst (λ t. Turns M m c.args.play (call_of t) Done (Move c.in-Ok-tell.play)) (sym c.in-Tell-Reply.is-0)
    (tell_made M m c.args.play b c.in-Tell-Reply.play c.in-Ok-tell.play c.in-Tell-Reply.is-1 c.in-Ok-tell.ensures)

pub returns-in-Err-tell : goal.returns-in-Err-tell
returns-in-Err-tell g c =
    let M = g.S.System.means c.args.case.now.system in
    let m = model g.B.Board.shows c.args.case.now in
    let x = c.in-Err-tell.field-0 in
    let b = c.in-Tell-Reply.reply in
    subst (λ t. Turns M m c.args.play (call_of t) (Refused x.fault) (Reply x.play)) (sym c.in-Tell-Reply.is-0)
    (tell_refused M m c.args.play b c.in-Tell-Reply.play x c.in-Tell-Reply.is-1 c.in-Err-tell.ensures)

pub returns-in-Announce-Reply : goal.returns-in-Announce-Reply
returns-in-Announce-Reply g c =
    let M = g.S.System.means c.args.case.now.system in
    let m = model g.B.Board.shows c.args.case.now in
    let t = c.in-Announce-Reply.play in
    subst (λ x. Turns M m c.args.play (call_of x) Idle (Reply t)) (sym c.in-Announce-Reply.is-0) (announce_waits M m c.args.play t c.in-Announce-Reply.is-1)

pub returns-in-Tell-Move : goal.returns-in-Tell-Move
returns-in-Tell-Move g c =
    let M = g.S.System.means c.args.case.now.system in
    let m = model g.B.Board.shows c.args.case.now in
    let t = c.in-Tell-Move.play in
    let b = c.in-Tell-Move.field-0-0 in
    subst (λ x. Turns M m c.args.play (call_of x) Idle (Move t)) (sym c.in-Tell-Move.is-0) (tell_waits M m c.args.play b t c.in-Tell-Move.is-1)
