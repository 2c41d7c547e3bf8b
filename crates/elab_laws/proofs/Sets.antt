-- What a statement writes is assigned in its process.
use Rattle.std.proofs.Common.{◌≡◌, ℕ, Bool, true, false, true≢false, if◌then◌else◌, ⊎_elim, List, [], ◌∷◌, ◌++◌, Option, Some, refl, sym, ◌∙◌, subst}
use Rattle.std.specs.Prelude.{⊤, ◌||◌, ◌==◌, fold, codes}
use Rattle.std.specs.List.{list_any}
use Rattle.std.specs.Str.{bytes_eq}
use Rattle.std.proofs.lemmas.Bool.{or_cases, or_left, or_right, eq-eqb}
use Rattle.std.proofs.lemmas.List.Folds.{list_any-append}
use Rattle.vl_sound.specs.vl_base.specs.declared.place.Place.{Place}
use Rattle.vl_sound.specs.vl_scope.proofs.Listed.{bytes_eq-to}
use Rattle.ten_plan.specs.vl_design.specs.Placed as p
use Rattle.vl_accept.specs.vl_sites.specs.Sites.{Site, is_load, is_fill, bare, first_bare, loaded, exp_sites, args_sites, target_sites, targets_sites, header_sites, head_sites, sites, all_sites, items_sites, exps_sites}
use Rattle.vl_accept.specs.vl_check.specs.Writers.{assigns}
use Rattle.vl_sound.specs.vl_flat.specs.declared.binding.Binding.{Binding}
use Rattle.vl_sound.specs.vl_flat.specs.declared.binding.Binding.TheVariants as b
use Rattle.vl_sound.specs.vl_flat.specs.declared.binding.Shape.{Shape}
use Rattle.vl_sound.specs.vl_flat.specs.Surface as x
use Rattle.vl_sound.specs.vl_flat.specs.Scopes.{Scope, number_of}
use Rattle.vl_sound.specs.vl_flat.specs.Expressions as e
use Rattle.vl_sound.specs.vl_flat.specs.Targets as t
use Rattle.vl_sound.specs.vl_flat.specs.Statements as s
use Rattle.vl_sound.specs.vl_flat.specs.Uses.{left_writes, lefts_write, first_is, writes, some_write, items_write}
use Rattle.vl_sound.specs.Used.{Classes}
use Rattle.elab_laws.proofs.Leaves.{IsFilled, IsTask, IsBody, AreBodies, HaveBodies}
use Rattle.elab_laws.proofs.Steps.{SelectsSo, StepsSo, steps-of, name-steps}

-- ---- sites at which a signal is assigned

module _ (j : ℕ) where
  abbrev pub Marks : List Site → Type 0
  Marks xs = list_any (λ s. assigns j s.what) xs ≡ true

  left-marks : (xs ys : List Site) → Marks xs → Marks (xs ++ ys)
  left-marks xs ys h = list_any-append (λ s. assigns j s.what) xs ys ∙ or_left (list_any (λ s. assigns j s.what) xs) (list_any (λ s. assigns j s.what) ys) h

  right-marks : (xs ys : List Site) → Marks ys → Marks (xs ++ ys)
  right-marks xs ys h = list_any-append (λ s. assigns j s.what) xs ys ∙ or_right (list_any (λ s. assigns j s.what) xs) (list_any (λ s. assigns j s.what) ys) h

  -- ---- left sides

  -- a step that chooses a word chooses one of this memory
  abbrev StepsOf : List e.Step → Type 0
  StepsOf ss = StepsSo (λ k. k ≡ j) (λ a. ⊤) ss

  fold-marks : (later : Bool) (at : Place) (base : p.Target) (ss : List e.Step) → Marks (target_sites later base) → StepsOf ss → Marks (target_sites later (fold (t.stepped at) base ss))
  fold-marks later at base [] h g = h
  fold-marks later at base (e.Chosen k a ∷ ss) h g = fold-marks later at (p.WordAt at k a) ss (or_left (k == j) (list_any (λ s. assigns j s.what) (exp_sites a)) (eq-eqb k j g.0.0)) g.1
  fold-marks later at base (e.Picked i from w ∷ ss) h g = fold-marks later at (p.PickAt at base i from w) ss (left-marks (target_sites later base) (exp_sites i) h) g.1
  fold-marks later at base (e.Sliced r l o w ∷ ss) h g = fold-marks later at (p.SliceAt at base (e.part_low r o) w) ss h g.1

  -- a header of a loop
  head-marks : (i : ℕ) (at : Place) (a : p.Target) (v : p.Exp) → Marks (sites (p.Set at a v)) → Marks (head_sites i (p.Set at a v) (sites (p.Set at a v)))
  head-marks i at (p.Whole q u) v h = by (u == i)
    where
      by : (c : Bool) → Marks (if c then header_sites (p.Set at (p.Whole q u) v) else sites (p.Set at (p.Whole q u) v))
      by true = h
      by false = h
  head-marks i at a v h = h

  module _ (scope : Scope) where
    any-selects : (ss : x.Selects) → SelectsSo scope (λ a. ⊤) ss
    any-selects x.NoSelects = tt
    any-selects (x.Index q a others) = (tt, any-selects others)
    any-selects (x.Range q mark l r others) = (tt, any-selects others)

    name-marks : (later : Bool) (at : Place) (n : List ℕ) (ss : x.Selects) → number_of (scope.names n) ≡ j → Marks (target_sites later (t.target scope (x.LeftName at n ss)))
    name-marks later at n ss is =
        fold-marks later at (p.Whole at (number_of (scope.names n))) (steps-of scope n ss) (or_left (number_of (scope.names n) == j) false (eq-eqb (number_of (scope.names n)) j is))
        (name-steps (λ k. k ≡ j) (λ a. ⊤) scope n ss is (any-selects ss))

    -- ---- statements

    module _ (k : Classes) (timed : Bool) (n : List ℕ) (y : Shape) (bound : scope.names n ≡ Some (b.Signal j y)) where
      named-so : (t : List ℕ) → bytes_eq n t ≡ true → scope.names t ≡ Some (b.Signal j y)
      named-so t h = subst (λ z. scope.names z ≡ Some (b.Signal j y)) (sym (bytes_eq-to n t h)) bound

      number-so : (t : List ℕ) → bytes_eq n t ≡ true → number_of (scope.names t) ≡ j
      number-so t h = subst (λ o. number_of o ≡ j) (sym (named-so t h)) refl

      mutual
        target-marks : (later : Bool) (l : x.Left) → left_writes n l ≡ true → Marks (target_sites later (t.target scope l))
        target-marks later (x.LeftName at t ss) h = name-marks later at t ss (number-so t h)
        target-marks later (x.LeftList at ls) h = targets-marks later ls h

        targets-marks : (later : Bool) (ls : x.Lefts) → lefts_write n ls ≡ true → Marks (targets_sites later (t.targets scope ls))
        targets-marks later x.NoLefts h = absurd (true≢false (sym h))
        targets-marks later (x.MoreLefts l ls) h =
            let one = target_sites later (t.target scope l) in
            let more = targets_sites later (t.targets scope ls) in
            ⊎_elim (λ q. left-marks one more (target-marks later l q)) (λ q. right-marks one more (targets-marks later ls q)) (or_cases (left_writes n l) (lefts_write n ls) h)

      -- the variable that `$fread` fills
      bare-marks : (at : Place) (o : Option Binding) → o ≡ Some (b.Signal j y) → Marks (bare false (e.whole at o))
      bare-marks at o is = subst (λ z. Marks (bare false (e.whole at z))) (sym is) (or_left (j == j) false (eq-eqb j j refl))

      filled-marks : (keeps : Bool) (given : x.Args) → first_is n given ≡ true → IsFilled k given → Marks (first_bare false (e.args scope keeps given))
      filled-marks true (x.MoreArgs (x.Named at t x.NoSelects) others) h g = bare-marks at (scope.names t) (named-so t h)
      filled-marks false (x.MoreArgs (x.Named at t x.NoSelects) others) h g = bare-marks at (scope.names t) (named-so t h)
      filled-marks keeps given h g = absurd g

      call-marks : (u w : Bool) (given : p.Args) (reads : List Site) → u ≡ false → w ≡ true → Marks (first_bare false given)
          → Marks (if u then loaded given else (if w then first_bare false given else []) ++ reads)
      call-marks true w given reads h g q = absurd (true≢false h)
      call-marks false false given reads h g q = absurd (true≢false (sym g))
      call-marks false true given reads h g q = left-marks (first_bare false given) reads q

      task-marks : (at : Place) (name : List ℕ) (given : x.Args) → IsTask k timed name given → (if is_fill name then first_is n given else false) ≡ true
          → Marks (sites (s.statement scope (x.Task at name given)))
      task-marks at name given v h = by (is_fill name) refl h
        where
          by : (c : Bool) → is_fill name ≡ c → (if c then first_is n given else false) ≡ true → Marks (sites (s.statement scope (x.Task at name given)))
          by true q h =
              let args = e.args scope (e.keeps_texts name) given in
              call-marks (is_load name) (is_fill name) args (args_sites args) (subst (λ z. is_load z ≡ false) (bytes_eq-to name (codes "$fread") q) refl) q
              (filled-marks (e.keeps_texts name) given h (v.filled q))
          by false q h = absurd (true≢false (sym h))

      set-marks : (l : x.Left) (a : x.Ex) → left_writes n l ≡ true → Marks (sites (s.set scope l a))
      set-marks l a h = left-marks (target_sites false (t.target scope l)) (exp_sites (e.exp scope a)) (target-marks false l h)

      -- what a loop's headers or its body write
      for-marks : (heads test nexts body : List Site) (u w z : Bool) → (u ≡ true → Marks heads) → (w ≡ true → Marks nexts) → (z ≡ true → Marks body) → (u || (w || z)) ≡ true
          → Marks (heads ++ (test ++ (nexts ++ body)))
      for-marks heads test nexts body u w z f g i h =
          ⊎_elim
          (λ q. left-marks heads (test ++ (nexts ++ body)) (f q))
          (λ r. right-marks heads (test ++ (nexts ++ body)) (right-marks test (nexts ++ body)
          (⊎_elim (λ q. left-marks nexts body (g q)) (λ q. right-marks nexts body (i q)) (or_cases w z r))))
          (or_cases u (w || z) h)

      mutual
        -- what the statement writes
        pub statement-marks : (a : x.Statement) → IsBody k timed a → writes n a ≡ true → Marks (sites (s.statement scope a))
        statement-marks (x.Null at) v h = absurd (true≢false (sym h))
        statement-marks (x.Block at as') v h = statements-marks as' v h
        statement-marks (x.If at y a c) v h =
            let tests = exp_sites (e.exp scope y) in
            let one = sites (s.statement scope a) in
            let two = sites (s.statement scope c) in
            right-marks tests (one ++ two)
            (⊎_elim (λ q. left-marks one two (statement-marks a v.1 q)) (λ q. right-marks one two (statement-marks c v.2 q)) (or_cases (writes n a) (writes n c) h))
        statement-marks (x.Case at wild y items) v h = right-marks (exp_sites (e.exp scope y)) (items_sites (s.case_items scope wild items)) (items-marks wild items v.1 h)
        statement-marks (x.For at l a y l' a' body) v h =
            let i = number_of (scope.names (s.first_name l)) in
            let first = s.set scope l a in
            let next = s.set scope l' a' in
            for-marks (head_sites i first (sites first)) (exp_sites (e.exp scope y)) (head_sites i next (sites next)) (sites (s.statement scope body))
            (left_writes n l) (left_writes n l') (writes n body)
            (λ q. head-marks i (x.left_place l) (t.target scope l) (e.exp scope a) (set-marks l a q))
            (λ q. head-marks i (x.left_place l') (t.target scope l') (e.exp scope a') (set-marks l' a' q))
            (λ q. statement-marks body v.5 q) h
        statement-marks (x.Repeat at count a) v h = statement-marks a v h
        statement-marks (x.Assign at true l a) v h = left-marks (target_sites false (t.target scope l)) (exp_sites (e.exp scope a)) (target-marks false l h)
        statement-marks (x.Assign at false l a) v h = left-marks (target_sites true (t.target scope l)) (exp_sites (e.exp scope a)) (target-marks true l h)
        statement-marks (x.Task at name given) v h = task-marks at name given v h

        statements-marks : (as' : x.Statements) → AreBodies k timed as' → some_write n as' ≡ true → Marks (all_sites (s.statements scope as'))
        statements-marks x.NoStatements v h = absurd (true≢false (sym h))
        statements-marks (x.MoreStatements a as') v h =
            let one = sites (s.statement scope a) in
            let more = all_sites (s.statements scope as') in
            ⊎_elim (λ q. left-marks one more (statement-marks a v.0 q)) (λ q. right-marks one more (statements-marks as' v.1 q)) (or_cases (writes n a) (some_write n as') h)

        items-marks : (wild : Bool) (items : x.CaseItems) → HaveBodies k timed items → items_write n items ≡ true → Marks (items_sites (s.case_items scope wild items))
        items-marks wild x.NoItems v h = absurd (true≢false (sym h))
        items-marks wild (x.Labelled es a others) v h =
            let one = sites (s.statement scope a) in
            let more = items_sites (s.case_items scope wild others) in
            right-marks (exps_sites (e.labels scope wild es)) (one ++ more)
            (⊎_elim (λ q. left-marks one more (statement-marks a v.1 q)) (λ q. right-marks one more (items-marks wild others v.2 q)) (or_cases (writes n a) (items_write n others) h))
        items-marks wild (x.Default a others) v h =
            let one = sites (s.statement scope a) in
            let more = items_sites (s.case_items scope wild others) in
            ⊎_elim (λ q. left-marks one more (statement-marks a v.0 q)) (λ q. right-marks one more (items-marks wild others v.1 q)) (or_cases (writes n a) (items_write n others) h)
