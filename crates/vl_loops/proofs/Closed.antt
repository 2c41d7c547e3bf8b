-- The text of a statement with its loops unrolled doesn't depend on what loop variables hold outside their loops, so a
-- statement is kept from every state.
use Rattle.std.proofs.Common.{◌≡◌, ◌≢◌, ◌⊎◌, inl, inr, ℕ, zero, suc, ◌+◌, ◌*◌, ◌/◌, ◌%◌, ◌^◌, pos, Bool, true, false, List, [], ◌∷◌, length, refl, sym, ap, ◌∙◌, arith}
use Rattle.std.specs.Prelude.{◌||◌, ◌==◌, slice_set, slice_index, min}
use Rattle.std.proofs.lemmas.List.{length-set}
use Rattle.std.proofs.Math.Nat.{mod-one, mul-add-mod_self_right}
use Rattle.std.proofs.lemmas.Bool.{cases_eq, eqb-true}
use Rattle.vl_base.specs.Selects.{placed, with_part}
use Rattle.vl_design.specs.Syntax.{Whole, Stm, Nop, Then, If, Case, For, Repeat, Set, Later, Sys, Items, NoItems, Labelled, Default, Row}
use Rattle.vl_design.specs.Width.{Scope, form, assigned, signal_form}
use Rattle.vl_design.specs.Value.{value, words_of}
use Rattle.vl_design.specs.State.{State, sample}
use Rattle.vl_design.specs.Targets.{target_width}
use Rattle.vl_design.specs.Exec.{exec, goes_on, most_turns}
use Rattle.vl_design.specs.Reads.{reads, stm_reads}
use Rattle.vl_design.proofs.Kept.{words_other}
use Rattle.vl_loops.specs.Unroll.{is_loop, unrolled, unrolled_items, in_turns, so_many}
use Rattle.vl_loops.specs.Fits.{Assigns, HasLoops, HaveLoops, stray, and_also, IsClosed, AreClosed, AreBound}
use Rattle.vl_loops.proofs.Closing.{put_closed, puts_closed, target_closed, task_closed, header_closed}
use Rattle.vl_loops.proofs.Heading.{set_alive}

-- a whole word is written, whatever was there
whole_word : (w a b part : ℕ) → placed w a (pos 0) w part ≡ placed w b (pos 0) w part
whole_word w a b part = at (min 0 w) (omega arith)
  where
    alone : (c : ℕ) → with_part c 0 w part % 2 ^ w ≡ part * 2 ^ 0 % 2 ^ w
    alone c =
        let z : 0 + w ≡ w = omega arith in
        let y : c % 2 ^ 0 ≡ 0 = mod-one c in
        let v : c / 2 ^ w * 2 ^ w + part * 2 ^ 0 + 0 ≡ c / 2 ^ w * 2 ^ w + part * 2 ^ 0 = omega arith in
        ap (λ n. (c / 2 ^ n * 2 ^ n + part * 2 ^ 0 + c % 2 ^ 0) % 2 ^ w) z ∙ (ap (λ n. (c / 2 ^ w * 2 ^ w + part * 2 ^ 0 + n) % 2 ^ w) y ∙ (ap (λ n. n % 2 ^ w) v ∙ mul-add-mod_self_right (c / 2 ^ w) (2 ^ w) (part * 2 ^ 0)))

    at : (m : ℕ) → m ≡ 0 → with_part a m w part % 2 ^ w ≡ with_part b m w part % 2 ^ w
    at m e = rw e (alone a ∙ sym (alone b))

-- e and t have the same at the bound loop variables, and each loop variable is one word
pub record Bound (rows : List Row) (bound : ℕ → Bool) (e t : State) : Type 0 where
  pub loops : AreBound rows bound e.values t.values
  pub size : length e.values ≡ length t.values
  pub one : (j : ℕ) → is_loop rows j ≡ true → (x : ℕ) × (y : ℕ) × (words_of e.values j ≡ x ∷ []) × (words_of t.values j ≡ y ∷ [])
  pub alive_e : e.finished ≡ false
  pub alive_t : t.finished ≡ false

set_word : (xs : List (List ℕ)) (j x v : ℕ) → words_of xs j ≡ x ∷ [] → words_of (slice_set xs j (v ∷ [])) j ≡ v ∷ []
set_word [] j x v h = let z : ⊥ = cc in absurd z
set_word (ws ∷ xs) zero x v h = refl
set_word (ws ∷ xs) (suc j) x v h = set_word xs j x v h

set_one : (xs : List (List ℕ)) (i j x v : ℕ) → i ≡ j → words_of xs j ≡ x ∷ [] → words_of (slice_set xs j (v ∷ [])) i ≡ v ∷ []
set_one xs i j x v e h = ap (words_of (slice_set xs j (v ∷ []))) e ∙ set_word xs j x v h

module _ (scope : Scope) where
  -- the variable of a loop is bound by its first assignment
  start_bound : (bound inner : ℕ → Bool) (j : ℕ) (a : Stm) → ((i : ℕ) → inner i ≡ true → i ≢ j → bound i ≡ true) → is_loop scope.names.rows j ≡ true → Assigns scope.names.rows j a → stm_reads (stray scope.names.rows bound) a ≡ false →
      (e t : State) → Bound scope.names.rows bound e t → Bound scope.names.rows inner (exec scope a e) (exec scope a t)
  start_bound bound inner j a more m k h e t b =
      let f : reads (stray scope.names.rows bound) k.source ≡ false = ap (λ z. stm_reads (stray scope.names.rows bound) z) (sym k.whole) ∙ h in
      let c = assigned (target_width scope.names (Whole j)) (form scope.names k.source) in
      let v : value scope (sample t) k.source c ≡ value scope (sample e) k.source c = header_closed scope scope.names.signals scope.names.funs scope.files scope.call bound (sample e) (sample t) b.loops k.source k.header f c in
      let w = (signal_form scope.names.rows j).width in
      rw (k.whole, set_alive scope (Whole j) k.source e b.alive_e, set_alive scope (Whole j) k.source t b.alive_t, v)
      (put_in w (value scope (sample e) k.source c / 2 ^ 0 % 2 ^ w))
    where
      put_in : (w part : ℕ) → Bound scope.names.rows inner
          (record e { values = slice_set e.values j (slice_set (words_of e.values j) 0 (placed w (slice_index (words_of e.values j) 0) (pos 0) w part)) })
          (record t { values = slice_set t.values j (slice_set (words_of t.values j) 0 (placed w (slice_index (words_of t.values j) 0) (pos 0) w part)) })
      put_in w part =
          let o = b.one j m in
          let x = o.0 in
          let y = o.1 in
          rw (o.2, o.3, whole_word w y x part)
          (record {
            loops = λ i n g. at i n g (cases_eq i j);
            size = length-set e.values j _ ∙ (b.size ∙ sym (length-set t.values j _));
            one = λ i n. ones i n (cases_eq i j);
            alive_e = b.alive_e;
            alive_t = b.alive_t;
          })
        where
          at : (i : ℕ) → is_loop scope.names.rows i ≡ true → inner i ≡ true → (i ≡ j) ⊎ (i ≡ j → ⊥) → words_of (slice_set e.values j (placed w (b.one j m).0 (pos 0) w part ∷ [])) i ≡ words_of (slice_set t.values j (placed w (b.one j m).0 (pos 0) w part ∷ [])) i
          at i n g (inl z) = set_one e.values i j (b.one j m).0 _ z (b.one j m).2 ∙ sym (set_one t.values i j (b.one j m).1 _ z (b.one j m).3)
          at i n g (inr d) = words_other e.values j i _ d ∙ (b.loops i n (more i g d) ∙ sym (words_other t.values j i _ d))

          ones : (i : ℕ) → is_loop scope.names.rows i ≡ true → (i ≡ j) ⊎ (i ≡ j → ⊥) → (x : ℕ) × (y : ℕ) × (words_of (slice_set e.values j (placed w (b.one j m).0 (pos 0) w part ∷ [])) i ≡ x ∷ []) × (words_of (slice_set t.values j (placed w (b.one j m).0 (pos 0) w part ∷ [])) i ≡ y ∷ [])
          ones i n (inl z) = (_, _, set_one e.values i j (b.one j m).0 _ z (b.one j m).2, set_one t.values i j (b.one j m).1 _ z (b.one j m).3)
          ones i n (inr d) = ((b.one i n).0, (b.one i n).1, words_other e.values j i _ d ∙ (b.one i n).2, words_other t.values j i _ d ∙ (b.one i n).3)

  bound_more : (bound : ℕ → Bool) (j i : ℕ) → and_also bound j i ≡ true → i ≢ j → bound i ≡ true
  bound_more bound j i h d = at (bound i) (i == j) refl h
    where
      at : (b c : Bool) → (i == j) ≡ c → (b || c) ≡ true → b ≡ true
      at true c e h = refl
      at false true e h = absurd (d (eqb-true i j e))
      at false false e h = h

  turns_closed : (inner : ℕ → Bool) (test : State → Bool) (step : State → State) (f : State → Stm) →
      ((x y : State) → Bound scope.names.rows inner x y → test x ≡ test y) → ((x y : State) → Bound scope.names.rows inner x y → Bound scope.names.rows inner (step x) (step y)) → ((x y : State) → Bound scope.names.rows inner x y → f x ≡ f y) →
      (n : ℕ) (x y : State) → Bound scope.names.rows inner x y → in_turns n test step f x ≡ in_turns n test step f y
  turns_closed inner test step f a b c zero x y h = refl
  turns_closed inner test step f a b c (suc n) x y h = at (test x) (test y) (a x y h) (c x y h) (turns_closed inner test step f a b c n (step x) (step y) (b x y h))
    where
      at : (d e : Bool) → d ≡ e → f x ≡ f y → in_turns n test step f (step x) ≡ in_turns n test step f (step y) →
          ◌≡◌ {A = Stm} (elim d [ true ↦ Then (f x) (in_turns n test step f (step x)) | false ↦ Nop ]) (elim e [ true ↦ Then (f y) (in_turns n test step f (step y)) | false ↦ Nop ])
      at true true z g h = rw (g, h) refl
      at false false z g h = refl
      at true false z g h = let q : ⊥ = cc in absurd q
      at false true z g h = let q : ⊥ = cc in absurd q

  mutual
    pub text_closed : (a : Stm) → HasLoops scope.names.rows a → (bound : ℕ → Bool) → IsClosed scope.names.rows bound a → (e t : State) → Bound scope.names.rows bound e t → unrolled scope a e ≡ unrolled scope a t
    text_closed Nop l bound k e t b = refl
    text_closed (Then x y) l bound k e t b = rw (text_closed x l.0 bound k.0 e t b, text_closed y l.1 bound k.1 e t b) refl
    text_closed (If u x y) l bound k e t b = rw (put_closed scope.names.rows bound e.values t.values b.loops u k.0, text_closed x l.0 bound k.1 e t b, text_closed y l.1 bound k.2 e t b) refl
    text_closed (Case u items) l bound k e t b = rw (put_closed scope.names.rows bound e.values t.values b.loops u k.0, items_closed items l bound k.1 e t b) refl
    text_closed (For j start test step a) l bound k e t b =
        let inner = and_also bound j in
        turns_closed inner (goes_on scope test) (exec scope step) (unrolled scope a)
        (λ x y h. let f : x.finished ≡ false = h.alive_e in let g : y.finished ≡ false = h.alive_t in
        rw (f, g, header_closed scope scope.names.signals scope.names.funs scope.files scope.call inner (sample x) (sample y) h.loops test l.2 k.1 (form scope.names test)) refl)
        (λ x y h. start_bound inner inner j step (λ i g d. g) l.0 l.3 k.2 x y h)
        (λ x y h. text_closed a l.4 inner k.3 x y h)
        most_turns (exec scope start e) (exec scope start t) (start_bound bound inner j start (bound_more bound j) l.0 l.1 k.0 e t b)
    text_closed (Repeat n a) l bound k e t b = ap (so_many n) (text_closed a l bound k e t b)
    text_closed (Set u x) l bound k e t b = rw (target_closed scope.names.rows bound e.values t.values b.loops u k.0, put_closed scope.names.rows bound e.values t.values b.loops x k.1) refl
    text_closed (Later u x) l bound k e t b = rw (target_closed scope.names.rows bound e.values t.values b.loops u k.0, put_closed scope.names.rows bound e.values t.values b.loops x k.1) refl
    text_closed (Sys task) l bound k e t b = rw (task_closed scope.names.rows bound e.values t.values b.loops task k) refl

    items_closed : (items : Items) → HaveLoops scope.names.rows items → (bound : ℕ → Bool) → AreClosed scope.names.rows bound items → (e t : State) → Bound scope.names.rows bound e t → unrolled_items scope items e ≡ unrolled_items scope items t
    items_closed NoItems l bound k e t b = refl
    items_closed (Labelled es a others) l bound k e t b = rw (puts_closed scope.names.rows bound e.values t.values b.loops es k.0, text_closed a l.0 bound k.1 e t b, items_closed others l.1 bound k.2 e t b) refl
    items_closed (Default a others) l bound k e t b = rw (text_closed a l.0 bound k.0 e t b, items_closed others l.1 bound k.1 e t b) refl
