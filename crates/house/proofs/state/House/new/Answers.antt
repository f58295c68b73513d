use Rattle.std.proofs.Common.{◌^◌, ◌<◌, [], sym, refl, ap, subst, rules}
use Rattle.server.specs.Server.{ServerM}
use Rattle.exactly_once.specs.Houses.{parts}
use Rattle.exactly_once.specs.Lived.{Lived, made}
use Rattle.exactly_once.specs.Steps.{Model}
use Rattle.house.specs.Houses.{new_house}
use Rattle.house.proofs.state.House.new.Goals as goal

pub returns-clause-lives : goal.returns-clause-lives
returns-clause-lives g c =
    let P = parts g.S.Service g.Q.Channel g.R.Channel in
    let n = new_house g.S.Service g.Q.Channel g.R.Channel c.args.service c.args.requests c.args.replies c.args.boot c.args.count in
    let boots : c.args.boot < 2 ^ 64 = search rules in
    let counts : c.args.count < 2 ^ 64 = search rules in
    let e = ap (λ (v : ServerM). record { server = v; terminals = n.terminals; content = n.content; requests = n.requests; replies = n.replies }) c.new.ensures in
    λ requests replies. subst (λ (m : Model P). Lived P n.content [] m) (sym e) (made (record { boot = boots; count = counts; sessions = refl; terminals = refl; content = refl; requests = requests; replies = replies }))
