use Rattle.std.proofs.Common.{◌≡◌, map, length, get_or, set, None, Option, sym, ap, ◌∙◌}
use Rattle.std.proofs.lemmas.List.{get_or-map, map-set}
use Rattle.terminal.specs.Terminal.{TerminalM}
use Rattle.house.specs.Houses.{place_model}
use Rattle.house.specs.Sends.{sends_in, place_after}
use Rattle.house.proofs.Sending.{placed_is}
use Rattle.house.proofs.sends.send_at.Goals as goal

pub returns-clause-after : goal.returns-clause-after
returns-clause-after g c =
    let ps = c.args.places.now in
    let ts = map place_model ps in
    let i = c.args.place in
    let at : get_or ts i None ≡ place_model (get_or ps i c.index-places-place.result) = get_or-map place_model ps i c.index-places-place.result None c.if-place-places.false in
    λ sends w.
    let sent = λ (o : Option TerminalM). sends_in (length c.args.scratch.now) sends o in
    map-set place_model ps i c.send.new.self ∙ ap (set ts i) (c.send.ensures.after sends w ∙ ap (λ o. place_after o (sent o)) (sym at)) ∙ placed_is ts i (sent (get_or ts i None))
