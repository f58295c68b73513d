use Rattle.std.proofs.Common.{not, unwrap_or, sym, ◌≡◌, List, map, set, Some, Option, ap, ◌∙◌, rules}
use Rattle.std.proofs.lemmas.List.{map-set}
use Rattle.wire.specs.Models.{id_model, refusal_model}
use Rattle.server.specs.Models.{model}
use Rattle.terminal.specs.Terminal.{TerminalM}
use Rattle.exactly_once.specs.History.{opened}
use Rattle.exactly_once.specs.Houses.{parts}
use Rattle.exactly_once.specs.Steps.{stands, with_server, free_place}
use Rattle.house.specs.Houses.{house_state, place_model}
use Rattle.slots.proofs.Slots.{lowest_map}
use Rattle.house.proofs.Calling.{open_refused, open_done, open_stays}
use Rattle.house.proofs.Meets.{meets_by}
use Rattle.house.proofs.state.House.open.Goals as goal

pub returns-in_err-id : goal.returns-in_err-id
returns-in_err-id g c =
    let P = parts g.S.Service g.Q.Channel g.R.Channel in
    let h = c.args.self.now in
    let m = house_state g.S.Service g.Q.Channel g.R.Channel h in
    let why = refusal_model c.in_err-id.field-0.0 in
    let a = c.in_err-id.ensures in
    let e = open_refused P m c.args.target why a.answer in
    meets_by e (search rules) (ap (with_server P m) (open_stays P m c.args.target why (model c.open.new.self) a.answer a.state))

pub returns : goal.returns
returns g c =
    let P = parts g.S.Service g.Q.Channel g.R.Channel in
    let h = c.args.self.now in
    let m = house_state g.S.Service g.Q.Channel g.R.Channel h in
    let i = c.unwrap_or-place.result in
    let at : i ≡ free_place P m = c.unwrap_or-place.ensures ∙ ap (λ o. unwrap_or o 7) (c.lowest_vacant.ensures.found ∙ sym (lowest_map (λ t. not (stands m.server t)) place_model h.places 0)) in
    let a = c.in_ok-id.ensures in
    let n = model c.open.new.self in
    let e = open_done P m c.args.target (record { id = id_model c.in_ok-id.id; after = n }) a.answer in
    let records = map-set place_model h.places i (record { terminal = Some c.new.result }) ∙ (λ j. set (map place_model h.places) (at j) (Some (c.new.ensures j))) in
    meets_by e (ap opened at) (ap (λ (ts : List (Option TerminalM)). record { server = n; terminals = ts; content = m.content; requests = m.requests; replies = m.replies }) records)
