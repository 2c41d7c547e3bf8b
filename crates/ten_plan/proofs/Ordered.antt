-- Errands in their order: what is done, and what is left.
use Rattle.std.proofs.Common.{◌≡◌, ℕ, zero, suc, ◌+◌, ◌≤◌, ◌<◌, ◌≢◌, Bool, true, false, true≢false, cond, ◌&&◌, ◌||◌, ◌==◌, nat_lt, List, [], ◌∷◌, ◌++◌, length, map, take, drop, get_or, refl, sym, ap, ◌∙◌, subst, arith, add-one, Option, Some, None}
use Rattle.std.specs.List.{AllByRecursion}
use Rattle.std.proofs.lemmas.List.{drop_more, drop-map, drop-drop, drop_all, length-drop, length-map}
use Rattle.std.proofs.lemmas.Bool.{ltb-true, ltb-false}
use Rattle.std.proofs.lemmas.Bool.Decides.{nat_tests}
use Rattle.vl_design.specs.Alone.{Due, SaveAs, Stop, Move, Errand, stops, stop_at, save_name, save_names}
use Rattle.ten_plan.specs.declared.plan.Due as declared-due
use Rattle.ten_plan.specs.declared.plan.Due.TheVariants as due
use Rattle.ten_plan.specs.declared.plan.Errand as declared
use Rattle.ten_plan.specs.Plans.{due_of, errand_of, is_save, may_precede, may_be_done, move_at, move_to, or_else, AreOrdered, AreDone, AreBefore}
use Rattle.vl_design.specs.vl_base.proofs.Booleans.{and_false_right as never}
use Rattle.vl_design.specs.vl_base.proofs.Numbers.{equal_true as same-tick, equal_from as tick-same}
pub use Rattle.vl_design.specs.vl_base.proofs.Numbers.{apart_false as apart}
pub use Rattle.vl_design.specs.vl_base.proofs.Lists.{all_weaker as weaker}

-- ---- lists

more-by : {X : Type 0} (P : X → Type 0) (n : ℕ) (xs : List X) (x : X) (rest : List X) → drop n xs ≡ x ∷ rest → AllByRecursion P (take n xs) → P x → AllByRecursion P (take (suc n) xs)
more-by P zero [] x rest e h p = tt
more-by P zero (y ∷ ys) x rest e h p = let same : x ≡ y = cc in (subst P same p, tt)
more-by P (suc n) [] x rest e h p = tt
more-by P (suc n) (y ∷ ys) x rest e h p = (h.0, more-by P n ys x rest e h.1 p)

-- one more of the first, where x is the first that was left
more : {X : Type 0} (P : X → Type 0) (n : ℕ) (xs : List X) (x : X) (rest : List X) → drop n xs ≡ x ∷ rest → AllByRecursion P (take n xs) → P x → AllByRecursion P (take (n + 1) xs)
more P n xs x rest e h p = rw add-one (more-by P n xs x rest e h p)

rest-is : {X : Type 0} (n : ℕ) (xs : List X) (x : X) (rest : List X) → drop n xs ≡ x ∷ rest → drop (n + 1) xs ≡ rest
rest-is n xs x rest e = sym (drop-drop 1 n xs) ∙ ap (drop 1) e

room : {X : Type 0} (n : ℕ) (xs : List X) (x : X) (rest : List X) → drop n xs ≡ x ∷ rest → n + 1 ≤ length xs
room n xs x rest e = omega (arith, length-drop n xs, ap length e)

-- the errand at a place is the first that is left there
pub at-place : (es read : List declared.Errand) (n : ℕ) (e : declared.Errand) → read ≡ es → n < length read → e ≡ get_or read n e → drop n (map errand_of es) ≡ errand_of e ∷ drop (n + 1) (map errand_of es)
at-place es read n e same lt is = subst (λ (xs : List declared.Errand). drop n (map errand_of xs) ≡ errand_of e ∷ drop (n + 1) (map errand_of xs)) same (
    drop-map errand_of n read ∙ ap (map errand_of) (drop_more read n e lt)
    ∙ (ap (λ x. errand_of x ∷ map errand_of (drop (n + 1) read)) (sym is) ∙ ap (λ ys. errand_of e ∷ ys) (sym (drop-map errand_of (n + 1) read))))

-- so it is where a look at the place finds it
pub found-at : (es read : List declared.Errand) (n : ℕ) (e : declared.Errand) → read ≡ es → true ≡ nat_lt n (length read) → e ≡ get_or read n e → drop n (map errand_of es) ≡ errand_of e ∷ drop (n + 1) (map errand_of es)
found-at es read n e same lt is = at-place es read n e same (ltb-true n (length read) (sym lt)) is

-- where a look finds none, none is left
pub none-at : (es read : List declared.Errand) (n : ℕ) → read ≡ es → false ≡ nat_lt n (length read) → drop n (map errand_of es) ≡ []
none-at es read n same le =
    let past : length read ≤ n = ltb-false n (length read) (sym le) in
    subst (λ (xs : List declared.Errand). drop n (map errand_of xs) ≡ []) same (drop_all n (map errand_of read) (rw length-map past))

-- ---- one errand

no-save : (k t : ℕ) (d : Due) → (t == k) ≡ false → save_name k t d ≡ []
no-save k t (SaveAs name) h = ap (λ b. cond b (name ∷ []) []) h
no-save k t Stop h = refl
no-save k t (Move fabric) h = refl

no-name : (k t : ℕ) (d : Due) → is_save d ≡ false → save_name k t d ≡ []
no-name k t (SaveAs name) h = absurd (true≢false h)
no-name k t Stop h = refl
no-name k t (Move fabric) h = refl

tick-apart : (t k : ℕ) → (t == k) ≡ false → t ≢ k
tick-apart t k h = λ e. let z : ⊥ = grind (arith, nat_tests) in z

-- what is no save, no stop, and no move
pub no-save-of : (d : declared-due.Due) → ((name : List ℕ) → d ≡ due.Save name → ⊥) → is_save (due_of d) ≡ false
no-save-of (due.Save name) h = absurd (h name refl)
no-save-of (due.Move fabric) h = refl
no-save-of due.Stop h = refl

pub no-stop-of : (d : declared-due.Due) → (d ≡ due.Stop → ⊥) → stops (due_of d) ≡ false
no-stop-of (due.Save name) h = refl
no-stop-of (due.Move fabric) h = refl
no-stop-of due.Stop h = absurd (h refl)

pub no-move-of : (d : declared-due.Due) → ((fabric : ℕ) → d ≡ due.Move fabric → ⊥) → None ≡ move_to (due_of d)
no-move-of (due.Save name) h = refl
no-move-of (due.Move fabric) h = absurd (h fabric refl)
no-move-of due.Stop h = refl

-- an errand that is done is no later, and no stop and no move of this tick
no-later : (k t : ℕ) (s : Bool) → (nat_lt t k || ((t == k) && s)) ≡ true → t < k + 1
no-later k t s h = grind (arith, nat_tests)

earlier : (k t : ℕ) → (nat_lt t k || ((t == k) && false)) ≡ true → (t == k) ≡ false
earlier k t h = grind (arith, nat_tests)

no-stop : (k t : ℕ) (d : Due) → (nat_lt t k || ((t == k) && is_save d)) ≡ true → ((t == k) && stops d) ≡ false
no-stop k t (SaveAs name) h = never (t == k)
no-stop k t Stop h = ap (λ b. b && true) (earlier k t h)
no-stop k t (Move fabric) h = never (t == k)

no-move : (k t : ℕ) (d : Due) → (nat_lt t k || ((t == k) && is_save d)) ≡ true → cond (t == k) (move_to d) None ≡ None
no-move k t (SaveAs name) h = same-none (t == k)
  where
    same-none : (b : Bool) → cond b (move_to (SaveAs name)) None ≡ None
    same-none true = refl
    same-none false = refl
no-move k t Stop h = ap (λ b. cond b (move_to Stop) None) (earlier k t h)
no-move k t (Move fabric) h = ap (λ b. cond b (move_to (Move fabric)) None) (earlier k t h)

before-done : (k t : ℕ) (s : Bool) → t < k → (nat_lt t k || ((t == k) && s)) ≡ true
before-done k t s h = grind (arith, nat_tests)

save-is-done : (k t : ℕ) → t ≡ k → (nat_lt t k || ((t == k) && true)) ≡ true
save-is-done k t h = grind (arith, nat_tests)

-- ---- order

pub ordered-drop : (n : ℕ) (es : List Errand) → AreOrdered es → AreOrdered (drop n es)
ordered-drop zero es h = h
ordered-drop (suc n) [] h = tt
ordered-drop (suc n) (e ∷ es) h = ordered-drop n es h.1

precedes : (t u : ℕ) (s : Bool) → (nat_lt t u || ((t == u) && s)) ≡ true → t ≤ u
precedes t u s h = grind (arith, nat_tests)

strictly : (t u : ℕ) → (nat_lt t u || ((t == u) && false)) ≡ true → t < u
strictly t u h = grind (arith, nat_tests)

-- ---- what is later than a tick

no-saves : (k : ℕ) (es : List Errand) → AllByRecursion (λ e. k < e.tick) es → save_names k es ≡ []
no-saves k [] h = refl
no-saves k (e ∷ es) h = ap (λ ns. ns ++ save_names k es) (no-save k e.tick e.due (apart e.tick k (λ same. omega arith))) ∙ no-saves k es h.1

no-stops : (k : ℕ) (es : List Errand) → AllByRecursion (λ e. k < e.tick) es → stop_at k es ≡ false
no-stops k [] h = refl
no-stops k (e ∷ es) h = ap (λ b. (b && stops e.due) || stop_at k es) (apart e.tick k (λ same. omega arith)) ∙ no-stops k es h.1

no-moves : (k : ℕ) (es : List Errand) → AllByRecursion (λ e. k < e.tick) es → move_at k es ≡ None
no-moves k [] h = refl
no-moves k (e ∷ es) h = ap (λ b. or_else (cond b (move_to e.due) None) (move_at k es)) (apart e.tick k (λ same. omega arith)) ∙ no-moves k es h.1

-- no stop of this tick is among what is done
stop-left : (k n : ℕ) (es : List Errand) → AllByRecursion (λ e. may_be_done k e ≡ true) (take n es) → stop_at k es ≡ stop_at k (drop n es)
stop-left k zero es h = refl
stop-left k (suc n) [] h = refl
stop-left k (suc n) (e ∷ es) h = ap (λ b. b || stop_at k es) (no-stop k e.tick e.due h.0) ∙ stop-left k n es h.1

pub stop-none : (es : List Errand) (k n : ℕ) → AreDone es k n → drop n es ≡ [] → stop_at k es ≡ false
stop-none es k n done none = stop-left k n es done.done ∙ ap (stop_at k) none

-- no move of this tick is among what is done
move-left : (k n : ℕ) (es : List Errand) → AllByRecursion (λ e. may_be_done k e ≡ true) (take n es) → move_at k es ≡ move_at k (drop n es)
move-left k zero es h = refl
move-left k (suc n) [] h = refl
move-left k (suc n) (e ∷ es) h = ap (λ m. or_else m (move_at k es)) (no-move k e.tick e.due h.0) ∙ move-left k n es h.1

pub move-none : (es : List Errand) (k n : ℕ) → AreDone es k n → drop n es ≡ [] → move_at k es ≡ None
move-none es k n done none = move-left k n es done.done ∙ ap (move_at k) none

-- no save of this tick is of an earlier one
saves-left : (k n : ℕ) (es : List Errand) → AllByRecursion (λ e. e.tick < k) (take n es) → save_names k (drop n es) ≡ save_names k es
saves-left k zero es h = refl
saves-left k (suc n) [] h = refl
saves-left k (suc n) (e ∷ es) h = saves-left k n es h.1 ∙ sym (ap (λ ns. ns ++ save_names k es) (no-save k e.tick e.due (apart e.tick k (λ same. omega (arith, h.0)))))

pub before-saves : (es : List Errand) (k n : ℕ) → AreBefore es k n → save_names k (drop n es) ≡ save_names k es
before-saves es k n h = saves-left k n es h.done

pub before-is-done : (es : List Errand) (k n : ℕ) → AreBefore es k n → AreDone es k n
before-is-done es k n h = record {
  few = h.few;
  done = weaker (λ e. e.tick < k) (λ e. may_be_done k e ≡ true) (λ e lt. before-done k e.tick (is_save e.due) lt) (take n es) h.done;
  left = h.left;
}

-- ---- counting the errands before a tick

module _ (es : List Errand) (k n : ℕ) (e : Errand) (rest : List Errand) (here : drop n es ≡ e ∷ rest) where
  pub one-before : e.tick < k → AllByRecursion (λ f. f.tick < k) (take n es) → AllByRecursion (λ f. f.tick < k) (take (n + 1) es)
  one-before lt h = more (λ f. f.tick < k) n es e rest here h lt

  pub before-ends : AreOrdered es → k ≤ e.tick → AllByRecursion (λ f. f.tick < k) (take n es) → AreBefore es k n
  before-ends ordered le h =
      let order = subst AreOrdered here (ordered-drop n es ordered) in
      let all : AllByRecursion (λ f. k ≤ f.tick) (e ∷ rest) = (le, weaker (λ f. may_precede e f ≡ true) (λ f. k ≤ f.tick) (λ f p. let later = precedes e.tick f.tick (is_save e.due) p in omega arith) rest order.0) in
      record {
        few = omega (arith, room n es e rest here);
        done = h;
        left = subst (AllByRecursion (λ f. k ≤ f.tick)) (sym here) all;
      }

-- ---- the first errand that is left

module _ (es : List Errand) (k n : ℕ) (e : Errand) (rest : List Errand) (here : drop n es ≡ e ∷ rest) (ordered : AreOrdered es) (done : AreDone es k n) where
  left : AllByRecursion (λ f. k ≤ f.tick) (e ∷ rest)
  left = subst (AllByRecursion (λ f. k ≤ f.tick)) here done.left

  order : AreOrdered (e ∷ rest)
  order = subst AreOrdered here (ordered-drop n es ordered)

  -- where it is of another tick, all are later
  others-later : e.tick ≢ k → AllByRecursion (λ f. k < f.tick) (e ∷ rest)
  others-later h =
      let le = left.0 in
      let lt : k < e.tick = omega arith in
      (lt, weaker (λ f. may_precede e f ≡ true) (λ f. k < f.tick) (λ f p. let later = precedes e.tick f.tick (is_save e.due) p in omega arith) rest order.0)

  -- where it is of this tick, and no save, the others are
  rest-later : e.tick ≡ k → is_save e.due ≡ false → AllByRecursion (λ f. k < f.tick) rest
  rest-later same plain =
      weaker (λ f. may_precede e f ≡ true) (λ f. k < f.tick)
      (λ f p. let later = strictly e.tick f.tick (subst (λ b. (nat_lt e.tick f.tick || ((e.tick == f.tick) && b)) ≡ true) plain p) in omega arith) rest order.0

  pub other-saves : e.tick ≢ k → save_names k (drop n es) ≡ []
  other-saves h = ap (save_names k) here ∙ no-saves k (e ∷ rest) (others-later h)

  pub last-saves : e.tick ≡ k → is_save e.due ≡ false → save_names k (drop n es) ≡ []
  last-saves same plain =
      ap (save_names k) here
      ∙ (ap (λ ns. ns ++ save_names k rest) (no-name k e.tick e.due plain) ∙ no-saves k rest (rest-later same plain))

  pub save-first : (name : List ℕ) → e.tick ≡ k → e.due ≡ SaveAs name → save_names k (drop n es) ≡ name ∷ save_names k rest
  save-first name same is =
      ap (save_names k) here
      ∙ (ap (λ d. save_name k e.tick d ++ save_names k rest) is ∙ ap (λ b. cond b (name ∷ []) [] ++ save_names k rest) (same-tick e.tick k same))

  done-more : may_be_done k e ≡ true → AreDone es k (n + 1)
  done-more h = record {
    few = room n es e rest here;
    done = more (λ f. may_be_done k f ≡ true) n es e rest here done.done h;
    left = subst (AllByRecursion (λ f. k ≤ f.tick)) (sym (rest-is n es e rest here)) left.1;
  }

  pub save-done : (name : List ℕ) → e.tick ≡ k → e.due ≡ SaveAs name → AreDone es k (n + 1)
  save-done name same is = done-more (ap (λ d. nat_lt e.tick k || ((e.tick == k) && is_save d)) is ∙ save-is-done k e.tick same)

  -- where no save of this tick is left, it is none
  plain-of : (d : Due) → (e.tick == k) ≡ true → save_name k e.tick d ++ save_names k rest ≡ [] → is_save d ≡ false
  plain-of (SaveAs name) same h = let z : ⊥ = cc in absurd z
  plain-of Stop same h = refl
  plain-of (Move fabric) same h = refl

  plain : save_names k (drop n es) ≡ [] → e.tick ≡ k → is_save e.due ≡ false
  plain none same = plain-of e.due (same-tick e.tick k same) (sym (ap (save_names k) here) ∙ none)

  pub stop-first : save_names k (drop n es) ≡ [] → e.tick ≡ k → stop_at k es ≡ stops e.due
  stop-first none same =
      stop-left k n es done.done ∙ ap (stop_at k) here
      ∙ (ap (λ b. ((e.tick == k) && stops e.due) || b) (no-stops k rest (rest-later same (plain none same)))
      ∙ (ap (λ b. (b && stops e.due) || false) (same-tick e.tick k same) ∙ or-false (stops e.due)))
    where
      or-false : (b : Bool) → (b || false) ≡ b
      or-false true = refl
      or-false false = refl

  pub stop-other : e.tick ≢ k → stop_at k es ≡ false
  stop-other h = stop-left k n es done.done ∙ (ap (stop_at k) here ∙ no-stops k (e ∷ rest) (others-later h))

  pub move-first : save_names k (drop n es) ≡ [] → e.tick ≡ k → move_at k es ≡ move_to e.due
  move-first none same =
      move-left k n es done.done ∙ ap (move_at k) here
      ∙ (ap (λ m. or_else (cond (e.tick == k) (move_to e.due) None) m) (no-moves k rest (rest-later same (plain none same)))
      ∙ (ap (λ b. or_else (cond b (move_to e.due) None) None) (same-tick e.tick k same) ∙ or-none (move_to e.due)))
    where
      or-none : (m : Option ℕ) → or_else m None ≡ m
      or-none None = refl
      or-none (Some fabric) = refl

  pub move-other : e.tick ≢ k → move_at k es ≡ None
  move-other h = move-left k n es done.done ∙ (ap (move_at k) here ∙ no-moves k (e ∷ rest) (others-later h))

  -- what is no move, of whatever tick, leaves none
  pub move-never : save_names k (drop n es) ≡ [] → None ≡ move_to e.due → None ≡ move_at k es
  move-never none never-moves = by (e.tick == k) refl
    where
      by : (b : Bool) → (e.tick == k) ≡ b → None ≡ move_at k es
      by true same = never-moves ∙ sym (move-first none (tick-same e.tick k same))
      by false same = sym (move-other (tick-apart e.tick k same))

  -- ---- past the tick

  done-before : AllByRecursion (λ f. f.tick < k + 1) (take n es)
  done-before = weaker (λ f. may_be_done k f ≡ true) (λ f. f.tick < k + 1) (λ f p. no-later k f.tick (is_save f.due) p) (take n es) done.done

  beyond : (fs : List Errand) → AllByRecursion (λ f. k < f.tick) fs → AllByRecursion (λ f. k + 1 ≤ f.tick) fs
  beyond fs h = weaker (λ f. k < f.tick) (λ f. k + 1 ≤ f.tick) (λ f lt. omega arith) fs h

  pub past-one : save_names k (drop n es) ≡ [] → e.tick ≡ k → AreBefore es (k + 1) (n + 1)
  past-one none same = record {
    few = room n es e rest here;
    done = more (λ f. f.tick < k + 1) n es e rest here done-before (omega arith);
    left = subst (AllByRecursion (λ f. k + 1 ≤ f.tick)) (sym (rest-is n es e rest here)) (beyond rest (rest-later same (plain none same)));
  }

  pub past-none : e.tick ≢ k → AreBefore es (k + 1) n
  past-none h = record {
    few = done.few;
    done = done-before;
    left = subst (AllByRecursion (λ f. k + 1 ≤ f.tick)) (sym here) (beyond (e ∷ rest) (others-later h));
  }
