-- Where stays are told, there are some.
use Rattle.std.proofs.Common.{◌≡◌, suc, true, List, [], ◌∷◌, length, filter, map, cond, refl, sym, ap, ◌∙◌, arith, eq-eqb}
use Rattle.std.specs.Prelude.{◌==◌, ◌&&◌}
use Rattle.host_report.specs.fab_model.specs.declared.transit.Stay.{Stay}
use Rattle.host_report.specs.fab_model.specs.declared.transit.Transit.{Transit}
use Rattle.host_judge.specs.host_form.specs.Histories.{is_same, times, Visit}
use Rattle.host_judge.specs.host_form.specs.Runs.{Run}
use Rattle.host_report.specs.Told.{visit_of}
use Rattle.host_report.specs.Ends.{HasRun}
use Rattle.host_judge.specs.host_form.proofs.Times.{same-self as same_self}

times_first : (v : Visit) (vs : List Visit) → times v (v ∷ vs) ≡ suc (times v vs)
times_first v vs = ap (λ b. length (cond b (v ∷ filter (is_same v) vs) (filter (is_same v) vs))) (same_self v)

-- where none is ever there, there are none
none : (vs : List Visit) → ((v : Visit) → times v vs ≡ 0) → vs ≡ []
none [] h = refl
none (v ∷ vs) h = absurd (omega (arith, h v, times_first v vs))

no_map : (ss : List Stay) → map visit_of ss ≡ [] → ss ≡ []
no_map [] e = refl
no_map (s ∷ ss) e = absurd (omega (arith, ap length e))

pub no_visits : (e : Transit) (r : Run) → HasRun e r → e.stays.items ≡ [] → r.visits ≡ []
no_visits e r h z = none r.visits (λ v. h.each v ∙ ap (λ (ss : List Stay). times v (map visit_of ss)) z)

pub no_stays : (e : Transit) (r : Run) → HasRun e r → r.visits ≡ [] → e.stays.items ≡ []
no_stays e r h z = no_map e.stays.items (none (map visit_of e.stays.items) (λ v. sym (h.each v) ∙ ap (times v) z))
