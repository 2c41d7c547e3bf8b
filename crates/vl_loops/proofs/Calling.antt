-- Functions whose loops are unrolled give what they gave; a statement of a process does what it did.
use Rattle.std.proofs.Common.{◌≡◌, ℕ, zero, suc, true, false, List, [], ◌∷◌, ◌++◌, length, Option, Some, None, refl, sym, ap, ◌∙◌}
use Rattle.std.specs.Prelude.{slice_get, slice_set, option_map, replicate}
use Rattle.std.proofs.lemmas.List.{length-set, length-map}
use Rattle.std.proofs.lemmas.Option.{slice_get-map}
use Rattle.vl_base.specs.declared.files.File.{File}
use Rattle.vl_design.specs.Syntax.{Stm, Row, Fun, Flat}
use Rattle.vl_design.specs.Width.{Scope, names_of, names_in, result_form_of, input_widths_of}
use Rattle.vl_design.specs.Sound.{IsSoundStm, IsSoundFun}
use Rattle.vl_design.specs.Value.{value_of, words_of}
use Rattle.vl_design.specs.State.{State}
use Rattle.vl_design.specs.Exec.{exec}
use Rattle.vl_design.specs.Functions.{zeros, fresh, with_inputs, inner, result_of, scope_with, calls_within, scope_of}
use Rattle.vl_design.proofs.Kept.{words_other}
use Rattle.vl_loops.specs.Unroll.{is_loop, unrolled_fun, unrolled_flat, still}
use Rattle.vl_loops.specs.Fits.{Same, HasLoops, AreNoLoops, CanUnroll, IsStill, IsBlock, IsOf, IsClosed, HasFunLoops, block_put}
use Rattle.vl_loops.proofs.Funs.{Alike, at_holds, with_funs}
use Rattle.vl_loops.proofs.Heading.{apart}
use Rattle.vl_loops.proofs.Texts.{text_same}
use Rattle.vl_loops.proofs.Whole.{exec_same, exec_still, writes_no_loop}
use Rattle.vl_loops.proofs.Closed.{text_closed}
use Rattle.vl_design.proofs.Kept.{OfUpdates}
use Rattle.vl_loops.proofs.Resting.{exec_fine}

true_is_not_false : false ≡ true → ⊥
true_is_not_false h = cc

-- inputs are no loop variables
inputs_hold : (scope : Scope) (js args : List ℕ) (values : List (List ℕ)) → AreNoLoops scope.names.rows js →
    ((j : ℕ) → is_loop scope.names.rows j ≡ true → words_of (with_inputs js args values) j ≡ words_of values j) × (length (with_inputs js args values) ≡ length values)
inputs_hold scope [] args values h = (λ j m. refl, refl)
inputs_hold scope (k ∷ ks) [] values h = (λ j m. refl, refl)
inputs_hold scope (k ∷ ks) (v ∷ vs) values h =
    let g = inputs_hold scope ks vs (slice_set values k (v ∷ [])) h.1 in
    (λ j m. g.0 j m ∙ words_other values k j _ (λ z. apart scope k j h.0 m (sym z)), g.1 ∙ length-set values k _)

same_self : (rows : List Row) (s : State) → Same rows s s
same_self rows s = record { others = λ j h. refl; size = refl; all_else = refl }

module _ (d : Flat) (can : CanUnroll d) where
  fun_sound : (i : ℕ) (f : Fun) → slice_get d.funs i ≡ Some f → IsSoundStm (names_in (names_of d) f) f.body
  fun_sound i f k = (at_holds (IsSoundFun (names_of d)) d.funs i f can.sound.funs k).body

  fun_loops : (i : ℕ) (f : Fun) → slice_get d.funs i ≡ Some f → HasLoops (d.rows ++ f.locals) f.body
  fun_loops i f k = (at_holds (HasFunLoops d.rows) d.funs i f can.funs k).body

  fun_inputs : (i : ℕ) (f : Fun) → slice_get d.funs i ≡ Some f → AreNoLoops (d.rows ++ f.locals) f.inputs
  fun_inputs i f k = (at_holds (HasFunLoops d.rows) d.funs i f can.funs k).inputs

module _ (d : Flat) (can : CanUnroll d) (files : List File) where
  abbrev e : Flat
  e = unrolled_flat d

  same_results : (f : Option Fun) (rows : List Row) →
      result_form_of (record (names_of e) { rows = rows }) (option_map (unrolled_fun (scope_of d [])) f) ≡ result_form_of (record (names_of d) { rows = rows }) f
  same_results None rows = refl
  same_results (Some f) rows = refl

  same_inputs : (f : Option Fun) (rows : List Row) →
      input_widths_of (record (names_of e) { rows = rows }) (option_map (unrolled_fun (scope_of d [])) f) ≡ input_widths_of (record (names_of d) { rows = rows }) f
  same_inputs None rows = refl
  same_inputs (Some f) rows = refl

  abbrev scope_at : List Row → (ℕ → List ℕ → ℕ) → Scope
  scope_at rows call = record { names = record (names_of d) { rows = rows }; files = files; call = call }

  -- calls that give the same are alike, in any function's body
  pub alike : (call call' : ℕ → List ℕ → ℕ) (rows : List Row) → ((f : ℕ) (args : List ℕ) → call' f args ≡ call f args) → Alike (scope_at rows call) e.funs call'
  alike call call' rows h = record {
    results = λ f. ap (result_form_of (record (names_of e) { rows = rows })) (slice_get-map (unrolled_fun (scope_of d [])) d.funs f) ∙ same_results (slice_get d.funs f) rows;
    inputs = λ f. ap (input_widths_of (record (names_of e) { rows = rows })) (slice_get-map (unrolled_fun (scope_of d [])) d.funs f) ∙ same_inputs (slice_get d.funs f) rows;
    calls = h;
  }

  gives : (call call' : ℕ → List ℕ → ℕ) → ((f : ℕ) (args : List ℕ) → call' f args ≡ call f args) → (i : ℕ) (f : Option Fun) → slice_get d.funs i ≡ f → (args : List ℕ) →
      result_of (scope_with e files call') (option_map (unrolled_fun (scope_of d [])) f) args ≡ result_of (scope_with d files call) f args
  gives call call' h i None k args = refl
  gives call call' h i (Some f) k args =
      let scope = inner (scope_with d files call) f in
      let first = fresh (with_inputs f.inputs args (zeros scope.names.rows)) in
      let g = inputs_hold scope f.inputs args (zeros scope.names.rows) (fun_inputs d can i f k) in
      let text = text_same (inner (scope_of d []) f) d.rows d.funs files call f.body (fun_loops d can i f k) (still scope) in
      let r = exec_same scope e.funs call' (alike call call' scope.names.rows h) f.body (fun_sound d can i f k) (fun_loops d can i f k) (still scope) first (record { loops = g.0; size = g.1; alive = refl }) in
      ap (λ b. value_of (exec (with_funs scope e.funs call') b first).values f.result) (sym text) ∙ ap (λ (z : State). value_of z.values f.result) r

  pub calls_same : (n f : ℕ) (args : List ℕ) → calls_within e files n f args ≡ calls_within d files n f args
  calls_same zero f args = refl
  calls_same (suc n) f args =
      ap (λ z. result_of (scope_with e files (calls_within e files n)) z args) (slice_get-map (unrolled_fun (scope_of d [])) d.funs f)
      ∙ gives (calls_within d files n) (calls_within e files n) (calls_same n) f (slice_get d.funs f) refl args

  all_alike : Alike (scope_of d files) e.funs (scope_of e files).call
  all_alike = alike (scope_of d files).call (scope_of e files).call d.rows (λ f args. ap (λ n. calls_within e files n f args) (length-map d.funs (unrolled_fun (scope_of d []))) ∙ calls_same (length d.funs) f args)

  pub block_same : (b : Stm) → IsBlock d b → (s : State) → IsStill d.rows s → exec (scope_of e files) (block_put d b) s ≡ exec (scope_of d files) b s
  block_same b k s h =
      let z = still (scope_of d []) in
      let text = text_same (scope_of d []) d.rows d.funs files (scope_of d files).call b k.loops z in
      ap (λ b. exec (scope_of e files) b s) (sym text)
      ∙ exec_same (scope_of d files) e.funs (scope_of e files).call all_alike b k.sound k.loops z s h

  pub block_still : (b : Stm) → IsBlock d b → (s : State) → IsStill d.rows s → IsStill d.rows (exec (scope_of d files) b s)
  block_still b k s h =
      exec_still (scope_of d files) e.funs (scope_of e files).call all_alike b k.sound k.loops (still (scope_of d [])) s h

  pub block_fine : (b : Stm) → IsBlock d b → (s : State) → IsStill d.rows s → OfUpdates (is_loop d.rows) s.later → OfUpdates (is_loop d.rows) (exec (scope_of d files) b s).later
  block_fine b k s h f =
      rw (← block_same b k s h) (exec_fine (is_loop d.rows) (scope_of e files) (block_put d b) (writes_no_loop (scope_of d []) b k.loops (still (scope_of d []))) s f)

  -- from every state: what the loop variables hold doesn't matter
  pub block_anywhere : (b : Stm) → IsBlock d b → IsClosed d.rows (λ j. false) b → (s : State) → IsOf d.rows s → exec (scope_of e files) (block_put d b) s ≡ exec (scope_of d files) b s
  block_anywhere b k c s h =
      let z = still (scope_of d []) in
      let x : State = record z { values = s.values } in
      let size : length s.values ≡ length (zeros d.rows) = h.size ∙ sym (length-map d.rows (λ (r : Row). replicate r.words 0)) in
      let closed = text_closed (scope_of d []) b k.loops (λ j. false) c x z (record {
        loops = λ j m g. absurd (true_is_not_false g);
        size = size;
        one = λ j m. ((h.words j m).0, (h.loops j m).0, (h.words j m).1, (h.loops j m).1);
        alive_e = refl;
        alive_t = refl;
      }) in
      let text = text_same (scope_of d []) d.rows d.funs files (scope_of d files).call b k.loops x in
      ap (λ a. exec (scope_of e files) a s) (sym closed ∙ sym text)
      ∙ exec_same (scope_of d files) e.funs (scope_of e files).call all_alike b k.sound k.loops x s (record { loops = λ j m. refl; size = refl; alive = refl })
