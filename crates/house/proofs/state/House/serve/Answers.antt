use Rattle.std.proofs.Common.{sym}
use Rattle.house.proofs.state.House.serve.Goals as goal

pub returns-in-Run : goal.returns-in-Run
returns-in-Run g c =
    let e = rw c.in-Work.is at c.in_ok-answer.ensures in
    rw (sym e, c.in-Run.is) (c.run.ensures c.args.request.now)

pub returns-in-Aside : goal.returns-in-Aside
returns-in-Aside g c =
    let e = rw c.in-Work.is at c.in_ok-answer.ensures in
    rw (sym e, c.in-Aside.is) (c.set_aside.ensures c.args.request.now)
