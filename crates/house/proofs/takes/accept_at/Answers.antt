use Rattle.std.proofs.Common.{◌≡◌, map, get_or, set, Some, None, Err, sym, ap, ◌∙◌, rules}
use Rattle.std.proofs.lemmas.List.{get_or-map, map-set, set-get_or}
use Rattle.std.proofs.lemmas.Result.{err_from_is_err_and}
use Rattle.common.specs.Search.{lowest_at}
use Rattle.wire.specs.Models.{refusal_model, reply_model}
use Rattle.exactly_once.specs.Steps.{refusal, bears}
use Rattle.slots.proofs.Slots.{lowest_map}
use Rattle.house.specs.declared.places.Place.{Place}
use Rattle.house.specs.Answers.{answer_by}
use Rattle.house.specs.Houses.{place_model}
use Rattle.house.specs.Takes.{taken_answer, accepts, settled, Handing}
use Rattle.house.proofs.Taking.{refused, claimed, handed_at}
use Rattle.house.proofs.takes.accept_at.Goals as goal

pub returns-in_err-closing : goal.returns-in_err-closing
returns-in_err-closing c =
    let r = reply_model c.args.reply in
    let ps = c.args.places.now in
    let ts = map place_model ps in
    let p = c.in_ok-place.place in
    let a = c.in_err-closing.ensures in
    let here : Some p ≡ lowest_at (λ (q : Place). bears r (place_model q)) ps 0 = search rules in
    let found : Some p ≡ lowest_at (bears r) ts 0 = here ∙ sym (lowest_map (bears r) place_model ps 0) in
    let at : get_or ts p None ≡ place_model (get_or ps p c.index-places-place.result) = get_or-map place_model ps p c.index-places-place.result None (search rules) in
    let b = err_from_is_err_and c.from_residual-in_err-closing.result c.from_residual-in_err-closing.ensures.1 in
    let x = refused ts r p (get_or ts p None) (refusal_model c.in_err-closing.field-0.0) (a.answer ∙ ap (λ o. accepts o r) (sym at)) in
    let e = handed_at ts r p found ∙ x.none in
    record {
      answer = ap (answer_by taken_answer) (b.1 ∙ ap Err b.2) ∙ ap refusal x.is ∙ ap (λ (h : Handing). h.answer) (sym e);
      after = map-set place_model ps p c.accept.new.self ∙ ap (set ts p) (a.after ∙ ap (λ o. settled o r) (sym at) ∙ x.stays) ∙ set-get_or ts p None ∙ ap (λ (h : Handing). h.records) (sym e);
    }

pub returns : goal.returns
returns c =
    let r = reply_model c.args.reply in
    let ps = c.args.places.now in
    let ts = map place_model ps in
    let p = c.in_ok-place.place in
    let a = c.in_ok-closing.ensures in
    let here : Some p ≡ lowest_at (λ (q : Place). bears r (place_model q)) ps 0 = search rules in
    let found : Some p ≡ lowest_at (bears r) ts 0 = here ∙ sym (lowest_map (bears r) place_model ps 0) in
    let at : get_or ts p None ≡ place_model (get_or ps p c.index-places-place.result) = get_or-map place_model ps p c.index-places-place.result None (search rules) in
    let e = handed_at ts r p found ∙ claimed ts r p (get_or ts p None) _ (a.answer ∙ ap (λ o. accepts o r) (sym at)) in
    record {
      answer = ap (λ (h : Handing). h.answer) (sym e);
      after = map-set place_model ps p c.accept.new.self ∙ ap (set ts p) (a.after ∙ ap (λ o. settled o r) (sym at)) ∙ ap (λ (h : Handing). h.records) (sym e);
    }
