-- As many acts as the run has counted at the boundary.
use Rattle.std.proofs.Common.{◌≡◌, true, false, [], refl, ◌∙◌, ap, subst}
use Rattle.std.specs.Prelude.{codes}
use Rattle.std.specs.Fmt.{digits}
use Rattle.std.proofs.lemmas.List.Elements.{All-nil, All-cons}
use Rattle.vl_design.specs.Examples.{tried, counter}
use Rattle.vl_design.specs.Queue.{is_comb}
use Rattle.vl_design.specs.Alone.{Shows}
use Rattle.vl_design.specs.Acts.{After}
use Rattle.vl_design.specs.Laws.{IsUnrolledStm, can_act, IsUnrolled, HasQuietNets, IsReached}
use Rattle.vl_design.proofs.Running.{shows_by}
use Rattle.vl_design.proofs.Agreeing.{agrees}
use Rattle.vl_design.proofs.laws.eleven_acts_of_a_counter_are_three_ticks.Goals as goal

unrolled : IsUnrolled counter
unrolled = record {
  funs = All-nil (λ f. IsUnrolledStm f.body);
  procs = All-cons (λ p. IsUnrolledStm p.body) _ [] (tt, (tt, tt)) (All-nil (λ p. IsUnrolledStm p.body));
}

none : ◌≡◌ false true → ⊥
none e = cc

quiet : HasQuietNets counter
quiet = record { quiet = All-cons (λ p. is_comb p.kind ≡ true → can_act p.body ≡ false) _ [] (λ e. absurd (none e)) (All-nil (λ p. is_comb p.kind ≡ true → can_act p.body ≡ false)) }

pub returns : goal.returns
unfolding digits
returns c =
    let s : Shows (tried [] counter) 3 (codes "0\n1\n2\n") 11 = shows_by (tried [] counter) 9 3 _ _ refl refl in
    let r : IsReached (tried [] counter) s.0 = agrees (tried [] counter) unrolled quiet s.1 in
    (r.point, subst (λ n. After (tried [] counter) n r.point) s.3 r.after, ap (λ z. z.printed) r.same ∙ s.2)
