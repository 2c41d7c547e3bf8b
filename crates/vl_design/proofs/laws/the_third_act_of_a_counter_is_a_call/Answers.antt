-- Act by act.
use Rattle.std.proofs.Common.{[], refl}
use Rattle.vl_design.specs.Examples.{tried, counter}
use Rattle.vl_design.specs.Acts.{After, begins, acts, from_nothing, of_wave, updates, calm, before}
use Rattle.vl_design.proofs.laws.the_third_act_of_a_counter_is_a_call.Goals as goal

pub returns : goal.returns
returns c =
    let start : After (tried [] counter) 0 _ = begins from_nothing in
    let first : After (tried [] counter) 1 _ = acts start refl (of_wave [] refl (_, calm refl, refl)) in
    let second : After (tried [] counter) 2 _ = acts first refl (updates refl (calm refl)) in
    (_, _, before _ _ _ _ _ second (record { left = _; alive = refl; in_wave = refl; next = refl }), refl, refl, refl)
