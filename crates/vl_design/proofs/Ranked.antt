-- In a design without recursion a call gives what the function's body gives, however deep calls nest.
use Rattle.std.proofs.Common.{◌≡◌, ℕ, zero, suc, ◌<◌, nat_lt, Bool, true, false, List, length, Option, Some, None, refl, sym, ◌∙◌, ap, arith}
use Rattle.std.specs.Prelude.{not, slice_get, slice_index}
use Rattle.std.proofs.lemmas.Bool.{ltb-true}
use Rattle.vl_base.specs.declared.files.File.{File}
use Rattle.vl_design.specs.Syntax.{Fun, Flat}
use Rattle.vl_design.specs.Width.{names_in, names_of}
use Rattle.vl_design.specs.State.{State}
use Rattle.vl_design.specs.Functions.{zeros, fresh, with_inputs, result_of, scope_with, calls_within, scope_of}
use Rattle.vl_design.specs.Nesting.{stm_calls, AreRanked}
use Rattle.vl_design.specs.Laws.{StatesDifferIn}
use Rattle.vl_design.proofs.Nothing.{stm_reads_none}
use Rattle.vl_design.proofs.Alike.{exec_alike}
use Rattle.vl_base.proofs.Booleans.{not_false}

module _ (d : Flat) (files : List File) where
  -- a body gives the same where the functions that it calls give the same
  pub result_alike : (call other : ℕ → List ℕ → ℕ) (q : ℕ → Bool) → ((h : ℕ) → q h ≡ false → (args : List ℕ) → call h args ≡ other h args) → (g : Fun) → stm_calls q g.body ≡ false → (args : List ℕ)
      → result_of (scope_with d files call) (Some g) args ≡ result_of (scope_with d files other) (Some g) args
  result_alike call other q same g h args =
      let s : State = fresh (with_inputs g.inputs args (zeros (names_in (names_of d) g).rows)) in
      let begin : StatesDifferIn (λ k. false) s s = record { values = record { words = λ k e. refl; many = refl }; others = refl } in
      let x = exec_alike (names_in (names_of d) g) files call other (λ k. false) q same g.body (stm_reads_none (λ k. false) (λ k. refl) g.body) h s s begin in
      ap (λ ws. slice_index ws 0) (x.values.words g.result refl)

  module _ (rank : ℕ → ℕ) (r : AreRanked d rank) where
    none_gives : (n f : ℕ) (args : List ℕ) → slice_get d.funs f ≡ None → calls_within d files n f args ≡ 0
    none_gives zero f args e = refl
    none_gives (suc n) f args e = ap (λ o. result_of (scope_with d files (calls_within d files n)) o args) e

    -- past its rank the depth doesn't matter
    steady : (n m f : ℕ) (args : List ℕ) → rank f < n → rank f < m → (o : Option Fun) → slice_get d.funs f ≡ o → calls_within d files n f args ≡ calls_within d files m f args
    steady zero m f args h i o e = absurd (omega arith)
    steady (suc n) zero f args h i o e = absurd (omega arith)
    steady (suc n) (suc m) f args h i None e = none_gives (suc n) f args e ∙ sym (none_gives (suc m) f args e)
    steady (suc n) (suc m) f args h i (Some g) e =
        let same = λ (k : ℕ) (low : not (nat_lt (rank k) (rank f)) ≡ false) (more : List ℕ).
        (let j : rank k < rank f = ltb-true (rank k) (rank f) (not_false (nat_lt (rank k) (rank f)) low) in
        steady n m k more (omega arith) (omega arith) (slice_get d.funs k) refl) in
        ap (λ x. result_of (scope_with d files (calls_within d files n)) x args) e
        ∙ (result_alike (calls_within d files n) (calls_within d files m) (λ k. not (nat_lt (rank k) (rank f))) same g (r.lower f g e) args
        ∙ sym (ap (λ x. result_of (scope_with d files (calls_within d files m)) x args) e))

    gives_at : (n f : ℕ) (args : List ℕ) (o : Option Fun) → slice_get d.funs f ≡ o → ((g : Fun) → o ≡ Some g → rank f < n)
        → calls_within d files n f args ≡ result_of (scope_with d files (calls_within d files n)) o args
    gives_at n f args None e h = none_gives n f args e
    gives_at zero f args (Some g) e h = let i = h g refl in absurd (omega arith)
    gives_at (suc n) f args (Some g) e h =
        let i : rank f < suc n = h g refl in
        let same = λ (k : ℕ) (low : not (nat_lt (rank k) (rank f)) ≡ false) (more : List ℕ).
        (let j : rank k < rank f = ltb-true (rank k) (rank f) (not_false (nat_lt (rank k) (rank f)) low) in
        steady n (suc n) k more (omega arith) (omega arith) (slice_get d.funs k) refl) in
        ap (λ x. result_of (scope_with d files (calls_within d files n)) x args) e
        ∙ result_alike (calls_within d files n) (calls_within d files (suc n)) (λ k. not (nat_lt (rank k) (rank f))) same g (r.lower f g e) args

pub call_gives : (d : Flat) (rank : ℕ → ℕ) (files : List File) → AreRanked d rank → (f : ℕ) (args : List ℕ) → (scope_of d files).call f args ≡ result_of (scope_of d files) (slice_get d.funs f) args
call_gives d rank files r f args = gives_at d files rank r (length d.funs) f args (slice_get d.funs f) refl (λ g e. r.below f g e)
