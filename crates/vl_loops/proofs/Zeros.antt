-- The numbers of the loop variables where no loop runs: all 0.
use Rattle.std.proofs.Common.{◌≡◌, ◌+◌, ◌<◌, ◌^◌, ℕ, zero, suc, true, List, [], ◌∷◌, ◌++◌, length, map, refl, ap, subst, sym, arith}
use Rattle.std.specs.Prelude.{slice_index, replicate}
use Rattle.std.proofs.lemmas.Nat.{pow_pos}
use Rattle.vl_design.specs.declared.design.Signal.{Signal}
use Rattle.vl_design.specs.declared.design.SigKind.{SigKind}
use Rattle.vl_design.specs.declared.design.SigKind.TheVariants as k
use Rattle.vl_design.specs.Rows.{row_of, word_count}
use Rattle.vl_design.specs.Syntax.{Row}
use Rattle.vl_design.specs.Value.{words_of}
use Rattle.vl_design.specs.Width.{signal_form}
use Rattle.vl_design.specs.Functions.{zeros, fresh}
use Rattle.vl_loops.specs.Unroll.{is_loop, is_loop_kind}
use Rattle.vl_loops.specs.Rooms.{values_of, state_of, AreNumbers}
use Rattle.vl_loops.proofs.Loops.{Meets}

-- a 0 for each signal of a design and each local of a function
abbrev pub none : List Signal → List Signal → List ℕ
none xs ys = map (λ x. 0) xs ++ map (λ y. 0) ys

abbrev rows : List Signal → List Signal → List Row
rows xs ys = map row_of xs ++ map row_of ys

one-word : (kind : SigKind) (first last : _) → is_loop_kind kind ≡ true → replicate {A = ℕ} (word_count kind first last) 0 ≡ 0 ∷ []
one-word k.Loop first last h = refl
one-word k.Net first last h = let z : ⊥ = cc in absurd z
one-word k.Var first last h = let z : ⊥ = cc in absurd z
one-word k.Comb first last h = let z : ⊥ = cc in absurd z
one-word k.Mem first last h = let z : ⊥ = cc in absurd z
one-word k.Clock first last h = let z : ⊥ = cc in absurd z

none-many : (xs ys : List Signal) → length (none xs ys) ≡ length (rows xs ys)
none-many [] [] = refl
none-many [] (y ∷ ys) = let h = none-many [] ys in omega (arith, h)
none-many (x ∷ xs) ys = let h = none-many xs ys in omega (arith, h)

none-values : (xs ys : List Signal) → length (values_of (none xs ys)) ≡ length (zeros (rows xs ys))
none-values [] [] = refl
none-values [] (y ∷ ys) = let h = none-values [] ys in omega (arith, h)
none-values (x ∷ xs) ys = let h = none-values xs ys in omega (arith, h)

none-index : (xs ys : List Signal) (j : ℕ) → slice_index (none xs ys) j ≡ 0
none-index [] [] j = refl
none-index [] (y ∷ ys) zero = refl
none-index [] (y ∷ ys) (suc j) = none-index [] ys j
none-index (x ∷ xs) ys zero = refl
none-index (x ∷ xs) ys (suc j) = none-index xs ys j

none-words : (xs ys : List Signal) (j : ℕ) → is_loop (rows xs ys) j ≡ true → words_of (values_of (none xs ys)) j ≡ words_of (zeros (rows xs ys)) j
none-words [] [] j h = refl
none-words [] (y ∷ ys) zero h = sym (one-word y.kind y.first y.last h)
none-words [] (y ∷ ys) (suc j) h = none-words [] ys j h
none-words (x ∷ xs) ys zero h = sym (one-word x.kind x.first x.last h)
none-words (x ∷ xs) ys (suc j) h = none-words xs ys j h

pub none-numbers : (xs ys : List Signal) → AreNumbers (rows xs ys) (none xs ys)
none-numbers xs ys = record {
  many = none-many xs ys;
  fits = λ j h. let w = (signal_form (rows xs ys) j).width in subst (λ n. n < 2 ^ w) (sym (none-index xs ys j)) (pow_pos w);
}

-- what every run has between its loops
pub none-meets : (xs ys : List Signal) → Meets (rows xs ys) (fresh (zeros (rows xs ys))) (state_of (none xs ys))
none-meets xs ys = record {
  holds = record { loops = none-words xs ys; size = none-values xs ys; alive = refl };
  alive = refl;
}
