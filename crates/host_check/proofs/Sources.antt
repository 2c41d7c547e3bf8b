-- What is said of a source that is accepted, or that was refused.
use Rattle.std.proofs.Common.{◌≡◌, ℕ, List, Result, Ok, Err, refl}
use Rattle.std.specs.Prelude.{IfOk}
use Rattle.vl_front.specs.vl_base.specs.declared.place.Place.{Place}
use Rattle.vl_front.specs.vl_design.specs.Cost as sums
use Rattle.vl_front.specs.vl_design.specs.Cost.{cost}
use Rattle.vl_front.specs.vl_design.specs.Costs.{saturated_cost}
use Rattle.vl_front.specs.vl_design.specs.declared.capacity.Cost.{Cost}
use Rattle.vl_front.specs.vl_accept.specs.declared.accept.Accepted.{Accepted as Design}
use Rattle.vl_front.specs.declared.fault.Kind.{Kind}
use Rattle.vl_front.specs.Sources.{IsRefusal, IsAcceptedOf}
use Rattle.ten_build.specs.Builds.{HasCost}
use Rattle.host_judge.specs.host_form.specs.Origins.{Accepted, Faulty}
use Rattle.host_judge.specs.Judged.{kind_words}
use Rattle.host_check.specs.declared.check.Checked.{Checked}
use Rattle.host_check.specs.Checks.{cost_line, refused_line, HasChecked}

-- it costs what the design costs that the text stands for
pub accepted-all : {E : Type 0} (result : Result Checked E) (a : Design) (told : Cost) → ((text : List ℕ) → IsAcceptedOf text a → HasCost text told) → IfOk result (λ c. c.status ≡ 0)
    → IfOk result (λ c. (s : sums.Cost) → told ≡ saturated_cost s → c.text.items ≡ cost_line s) → IfOk result (λ c. (text : List ℕ) → IsAcceptedOf text a → HasChecked text c)
accepted-all (Ok c) a told costs status said = λ text is.
    let has = costs text is in
    record { source = Accepted has.design; is = has.stands; text_is = said (cost has.design) has.is; status_is = status }
accepted-all (Err e) a told costs status said = status

pub refused-so : {E : Type 0} (result : Result Checked E) (text : List ℕ) (place : Place) (kind : Kind) → IsRefusal text place kind → IfOk result (λ c. c.status ≡ 3)
    → IfOk result (λ c. c.text.items ≡ refused_line place (kind_words kind)) → IfOk result (HasChecked text)
refused-so (Ok c) text place kind is status said = record { source = Faulty place (kind_words kind); is = (kind, is, refl); text_is = said; status_is = status }
refused-so (Err e) text place kind is status said = status
