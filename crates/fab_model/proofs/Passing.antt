-- Who is behind the move of a tick, note by note.
use Rattle.std.proofs.Common.{◌≡◌, ℕ, ◌+◌, ◌<◌, ◌≤◌, ◌⊎◌, inl, inr, Bool, true, false, List, [], ◌∷◌, ◌++◌, Option, Some, None, eqb, refl, sym, ap, ap₂, ◌∙◌, subst, arith, eq-eqb}
use Rattle.std.specs.Prelude.{◌==◌, ◌&&◌, ◌||◌, not, if◌then◌else◌, is_some, nat_lt, ⊤}
use Rattle.std.proofs.lemmas.Bool.{cases_lt, eqb-true, false≢true, lt-ltb, ltb-true}
use Rattle.ten_core.specs.vl_design.specs.declared.capacity.Cost.{Cost}
use Rattle.ten_core.specs.ten_plan.specs.Plans.{move_at}
use Rattle.fab_lock.specs.declared.entry.Entry.{Entry}
use Rattle.fab_lock.specs.declared.entry.Kind.{Kind}
use Rattle.fab_lock.specs.declared.entry.Kind.TheVariants.{Line, Came, Ran, Saved, Left}
use Rattle.fab_model.specs.declared.note.Note.{Note}
use Rattle.fab_model.specs.declared.transit.Stay.{Stay}
use Rattle.fab_model.specs.Deeds.{deed_in, run_in, Deed}
use Rattle.fab_model.specs.Histories.{after, is_done, next, place_of, put, replay, stay_now, Away, Inside, IsLegal, IsLegalFrom, May, MayLeave, MayRun, Place, Seat}
use Rattle.fab_model.specs.Moves.{ends_idle, is_behind, is_for, left_for, passed, total, HaveMoveAt}
use Rattle.fab_model.specs.Stays.{is_idle}
use Rattle.fab_model.specs.Tokens.{out_at, outs, put_at, puts, told, Token}
use Rattle.fab_model.proofs.Legality.{place_here, place_other}
use Rattle.ten_core.specs.vl_base.proofs.Booleans.{and_parts as split_and, or_right_true as or_right, and_both as both, from_true_false as no}

-- ---- yes and no

-- 1 for yes
abbrev one : Bool → ℕ
one b = if b then 1 else 0

-- where a resident leaves: later, at, began before, began at, the tick; it leaves where it came; the move was done, and is
leaves : (later at before began same was is : Bool) → (later ≡ true → at ≡ false) → (before ≡ true → later ≡ true) → (began ≡ true → same ≡ false → later ≡ true) → (began ≡ true → same ≡ true → at ≡ true)
    → (at ≡ true → same ≡ true → began ≡ true) → ((before || (began && was)) ≡ false → later ≡ false) → ((same && was) ≡ true → is ≡ true)
    → one (later || (at && is)) ≡ one (before || (began && was)) + one (at && (is && not (same && was)))
leaves true true before began same was is f1 f2 f3 f4 f5 f6 f7 = no (f1 refl)
leaves true false true began same was is f1 f2 f3 f4 f5 f6 f7 = refl
leaves true false false true same true is f1 f2 f3 f4 f5 f6 f7 = refl
leaves true false false true same false is f1 f2 f3 f4 f5 f6 f7 = no (f6 refl)
leaves true false false false same was is f1 f2 f3 f4 f5 f6 f7 = no (f6 refl)
leaves false at true began same was is f1 f2 f3 f4 f5 f6 f7 = no (sym (f2 refl))
leaves false false false false same was is f1 f2 f3 f4 f5 f6 f7 = refl
leaves false true false false true was is f1 f2 f3 f4 f5 f6 f7 = no (sym (f5 refl refl))
leaves false true false false false was true f1 f2 f3 f4 f5 f6 f7 = refl
leaves false true false false false was false f1 f2 f3 f4 f5 f6 f7 = refl
leaves false at false true false was is f1 f2 f3 f4 f5 f6 f7 = no (sym (f3 refl refl))
leaves false false false true true was is f1 f2 f3 f4 f5 f6 f7 = no (sym (f4 refl refl))
leaves false true false true true true true f1 f2 f3 f4 f5 f6 f7 = refl
leaves false true false true true true false f1 f2 f3 f4 f5 f6 f7 = no (sym (f7 refl))
leaves false true false true true false true f1 f2 f3 f4 f5 f6 f7 = refl
leaves false true false true true false false f1 f2 f3 f4 f5 f6 f7 = refl

not_true : (b : Bool) → (b ≡ true → false ≡ true) → b ≡ false
not_true true f = sym (f refl)
not_true false f = refl

-- ---- stays

pub ends-snoc : (xs : List Stay) (x : Stay) → ends_idle (xs ++ x ∷ []) ≡ is_idle x
ends-snoc [] x = refl
ends-snoc (y ∷ []) x = refl
ends-snoc (y ∷ z ∷ zs) x = ends-snoc (z ∷ zs) x

-- ---- sums

total-append : (f : Token → ℕ) (xs ys : List Token) → total f (xs ++ ys) ≡ total f xs + total f ys
total-append f [] ys = omega arith
total-append f (x ∷ xs) ys = let e = total-append f xs ys in omega (arith, e)

module _ (t j : ℕ) where
  moves-parts : (xs ys : List Token) → HaveMoveAt t j (xs ++ ys) → HaveMoveAt t j xs × HaveMoveAt t j ys
  moves-parts [] ys h = (tt, h)
  moves-parts (x ∷ xs) ys h = let r = moves-parts xs ys h.1 in ((h.0, r.0), r.1)

  -- ---- one that is inside

  -- it ran from where it was put in line; the move of tick j stands in its plan; and it isn't past that where it wasn't put in line behind it
  record IsOnWay (since now : ℕ) (came : Bool) (d : Deed) : Type 0 where
    order : since ≤ now
    still : came ≡ false → now ≡ since
    move : is_some (move_at j (run_in d).plan.errands) ≡ true
    short : is_behind j since d ≡ false → now ≤ j

  abbrev IsGood : Place → Type 0
  IsGood Away = ⊤
  IsGood (Inside since now c d) = IsOnWay since now c d

  -- 1 where it was put in line behind that move
  abbrev inside : Place → ℕ
  inside Away = 0
  inside (Inside since now c d) = one (is_behind j since d)

  -- ---- it leaves

  resident_leaves : (g since now : ℕ) (d e : Deed) → IsOnWay since now true d → e.resident ≡ true → e.stays ≡ d.stays ++ stay_now g since now true d → (is_done since now d ≡ true → e.moved ≡ true)
      → one (is_behind j now e) ≡ one (is_behind j since d) + one (is_for j now e)
  resident_leaves g since now d e w resident stays done =
      let o = w.order in
      let last : ends_idle e.stays ≡ ((now == since) && d.moved) = ap ends_idle stays ∙ ends-snoc d.stays (record { fabric = g; from = since; to = now; by_move = d.moved }) in
      let for_ : is_for j now e ≡ ((now == j) && (e.moved && not ((now == since) && d.moved))) = ap₂ (λ (r s : Bool). (now == j) && (e.moved && (r && not s))) resident last in
      leaves (nat_lt j now) (now == j) (nat_lt j since) (since == j) (now == since) d.moved e.moved
      (λ a. not_true (now == j) (λ b. let x = ltb-true j now a in let y = eqb-true now j b in absurd (omega (arith, x, y))))
      (λ a. let x = ltb-true j since a in lt-ltb j now (omega (arith, x, o)))
      (λ a b. let x = eqb-true since j a in apart b x (cases_lt j now))
      (λ a b. let x = eqb-true since j a in let y = eqb-true now since b in eq-eqb now j (omega (arith, x, y)))
      (λ a b. let x = eqb-true now j a in let y = eqb-true now since b in eq-eqb since j (omega (arith, x, y)))
      (λ a. let x = w.short a in not_true (nat_lt j now) (λ b. let y = ltb-true j now b in absurd (omega (arith, x, y))))
      done
      ∙ ap (λ (b : Bool). one (is_behind j since d) + one b) (sym for_)
    where
      apart : (now == since) ≡ false → since ≡ j → (j < now) ⊎ (now ≤ j) → nat_lt j now ≡ true
      apart b x (inl l) = lt-ltb j now l
      apart b x (inr l) = let o = w.order in absurd (false≢true (sym b ∙ eq-eqb now since (omega (arith, o, x, l))))

  and_none : (a b c d : Bool) → c ≡ false → (a && (b && (c && d))) ≡ false
  and_none false b c d h = refl
  and_none true false c d h = refl
  and_none true true false d h = refl
  and_none true true true d h = no h

  waiter_leaves : (since now : ℕ) (d e : Deed) → IsOnWay since now false d → e.resident ≡ false → e.moved ≡ d.moved → one (is_behind j now e) ≡ one (is_behind j since d) + one (is_for j now e)
  waiter_leaves since now d e w resident kept =
      let a : one (is_behind j now e) ≡ one (is_behind j since d) = ap₂ (λ (k : ℕ) (m : Bool). one (nat_lt j k || ((k == j) && m))) (w.still refl) kept in
      let b : one (is_for j now e) ≡ 0 = ap one (and_none (now == j) e.moved e.resident (not (ends_idle e.stays)) resident) in
      omega (arith, a, b)

  leaves_one : (g since now : ℕ) (c : Bool) (d : Deed) (n : Entry) (o : Option Deed) (m : MayLeave g since now c d n o) → IsOnWay since now c d
      → one (is_behind j now m.deed) ≡ one (is_behind j since d) + one (is_for j now m.deed)
  leaves_one g since now true d n o m w = resident_leaves g since now d m.deed w m.resident m.stays m.done
  leaves_one g since now false d n o m w = waiter_leaves since now d m.deed w m.resident (m.kept refl)

  -- ---- a note of its own

  abbrev Balance : (p q : Place) (into out : List Token) → Type 0
  Balance p q into out = total (passed t j) out + inside q ≡ inside p + total (passed t j) into + total (left_for t j) out

  idle_sum : (x : ℕ) → 0 + x ≡ x + 0 + 0
  idle_sum x = omega arith

  put_one : (e : Entry) (o : Option Deed) → e.tenant ≡ t → is_some o ≡ true → HaveMoveAt t j (told e o) → Balance Away (put e o) (told e o) [] × IsGood (put e o)
  put_one e None same some h = absurd (false≢true some)
  put_one e (Some d) same some h =
      let a : (if (e.tenant == t) && is_behind j e.from d then 1 else 0) ≡ one (is_behind j e.from d) = ap (λ (b : Bool). one (b && is_behind j e.from d)) (eq-eqb e.tenant t same) in (
        omega (arith, a),
        record { order = omega arith; still = λ c. refl; move = h.0 same; short = behind (is_behind j e.from d) refl },
      )
    where
      behind : (b : Bool) → is_behind j e.from d ≡ b → b ≡ false → e.from ≤ j
      behind true i h = no h
      behind false i h = under (cases_lt j e.from)
        where
          low : (a b : Bool) → (a || b) ≡ false → a ≡ false
          low true b h = h
          low false b h = refl

          under : (j < e.from) ⊎ (e.from ≤ j) → e.from ≤ j
          under (inl l) = absurd (false≢true (sym (low (nat_lt j e.from) ((e.from == j) && d.moved) i) ∙ lt-ltb j e.from l))
          under (inr l) = l

  ran_one : (since now : ℕ) (c : Bool) (d : Deed) (e : Entry) → c ≡ true → MayRun since now d e → IsOnWay since now c d → IsOnWay since e.to c d
  ran_one since now c d e is m w =
      let o = w.order in
      let l = m.later in
      record { order = omega (arith, o, l); still = λ f. no (sym is ∙ f); move = w.move; short = λ b. under b (cases_lt j e.to) }
    where
      under : is_behind j since d ≡ false → (j < e.to) ⊎ (e.to ≤ j) → e.to ≤ j
      under b (inr l) = l
      under b (inl l) =
          let r = m.moves j (w.short b) l w.move in
          let s = split_and (now == since) d.moved r.1 in
          let at = eqb-true now since s.0 in
          let here = r.0 in
          absurd (false≢true (sym b ∙ or_right (nat_lt j since) ((since == j) && d.moved) (both (since == j) d.moved (eq-eqb since j (omega (arith, at, here))) s.1)))

  left_one : (g since now : ℕ) (c : Bool) (d : Deed) (e : Entry) (o : Option Deed) → e.tenant ≡ t → MayLeave g since now c d e o → IsOnWay since now c d → Balance (Inside since now c d) Away [] (told e o)
  left_one g since now c d e o same m w =
      subst (λ (x : Option Deed). Balance (Inside since now c d) Away [] (told e x)) (sym m.known)
      (let r = leaves_one g since now c d e o m w in
      let a : passed t j (record { tenant = e.tenant; tick = e.from; deed = m.deed }) ≡ one (is_behind j now m.deed) =
      ap₂ (λ (b : Bool) (k : ℕ). one (b && is_behind j k m.deed)) (eq-eqb e.tenant t same) m.from in
      let b : left_for t j (record { tenant = e.tenant; tick = e.from; deed = m.deed }) ≡ one (is_for j now m.deed) =
      ap₂ (λ (b : Bool) (k : ℕ). one (b && is_for j k m.deed)) (eq-eqb e.tenant t same) m.from in
      omega (arith, r, a, b))

  own_note : (g : ℕ) (k : Kind) (p : Place) (n : Note) → n.entry.tenant ≡ t → May g k p n → IsGood p → HaveMoveAt t j (put_at k n) → Balance p (next k p n) (put_at k n) (out_at k n) × IsGood (next k p n)
  own_note g Line Away n same m w h = put_one n.entry (deed_in n) same m.0 h
  own_note g Line (Inside since now c d) n same m w h = absurd m
  own_note g Came Away n same m w h = absurd m
  own_note g Came (Inside since now c d) n same m w h = (idle_sum (inside (Inside since now c d)), record { order = w.order; still = λ e. no e; move = w.move; short = w.short })
  own_note g Ran Away n same m w h = absurd m
  own_note g Ran (Inside since now c d) n same m w h = (idle_sum (inside (Inside since now c d)), ran_one since now c d n.entry m.0 m.1 w)
  own_note g Saved Away n same m w h = absurd m
  own_note g Saved (Inside since now c d) n same m w h = (idle_sum (inside (Inside since now c d)), w)
  own_note g Left Away n same m w h = absurd m
  own_note g Left (Inside since now c d) n same m w h = (left_one g since now c d n.entry (deed_in n) same m.0 w, tt)

  -- ---- another's note

  none_told : (f : ℕ → Deed → Bool) (e : Entry) (d : Deed) → (e.tenant == t) ≡ false → one ((e.tenant == t) && f e.from d) ≡ 0
  none_told f e d h = ap (λ (b : Bool). one (b && f e.from d)) h

  none_passed : (e : Entry) (o : Option Deed) → (e.tenant == t) ≡ false → total (passed t j) (told e o) ≡ 0
  none_passed e None h = refl
  none_passed e (Some d) h = let a = none_told (λ k x. is_behind j k x) e d h in omega (arith, a)

  none_left : (e : Entry) (o : Option Deed) → (e.tenant == t) ≡ false → total (left_for t j) (told e o) ≡ 0
  none_left e None h = refl
  none_left e (Some d) h = let a = none_told (λ k x. is_for j k x) e d h in omega (arith, a)

  other_note : (k : Kind) (p : Place) (n : Note) → (n.entry.tenant == t) ≡ false → Balance p p (put_at k n) (out_at k n)
  other_note Line p n h = let a = none_passed n.entry (deed_in n) h in omega (arith, a)
  other_note Came p n h = idle_sum (inside p)
  other_note Ran p n h = idle_sum (inside p)
  other_note Saved p n h = idle_sum (inside p)
  other_note Left p n h = let a = none_passed n.entry (deed_in n) h in let b = none_left n.entry (deed_in n) h in omega (arith, a, b)

  -- ---- all notes

  one_note : (g : ℕ) (k : Kind) (ss : List Seat) (n : Note) → May g k (place_of n.entry.tenant ss) n → IsGood (place_of t ss) → HaveMoveAt t j (put_at k n)
      → Balance (place_of t ss) (place_of t (after k ss n)) (put_at k n) (out_at k n) × IsGood (place_of t (after k ss n))
  one_note g k ss n m w h = by (eqb n.entry.tenant t) refl
    where
      by : (v : Bool) → eqb n.entry.tenant t ≡ v → Balance (place_of t ss) (place_of t (after k ss n)) (put_at k n) (out_at k n) × IsGood (place_of t (after k ss n))
      by true e =
          let same : n.entry.tenant ≡ t = eqb-true n.entry.tenant t e in
          let then_ : place_of t (after k ss n) ≡ next k (place_of t ss) n =
          subst (λ (u : ℕ). place_of u (after k ss n) ≡ next k (place_of u ss) n) same (place_here g k ss n m) in
          subst (λ (q : Place). Balance (place_of t ss) q (put_at k n) (out_at k n) × IsGood q) (sym then_)
          (own_note g k (place_of t ss) n same (subst (λ (u : ℕ). May g k (place_of u ss) n) same m) w h)
      by false e = subst (λ (q : Place). Balance (place_of t ss) q (put_at k n) (out_at k n) × IsGood q) (sym (place_other k t ss n e)) (other_note k (place_of t ss) n e, w)

  all_notes : (g : ℕ) (c : Cost) (ss : List Seat) (ns : List Note) → IsLegalFrom g c ss ns → IsGood (place_of t ss) → HaveMoveAt t j (puts ns) → place_of t (replay ss ns) ≡ Away
      → total (passed t j) (outs ns) ≡ inside (place_of t ss) + total (passed t j) (puts ns) + total (left_for t j) (outs ns)
  all_notes g c ss [] l w h away = ap (λ (p : Place). inside p + 0 + 0) (sym away)
  all_notes g c ss (n ∷ ns) l w h away =
      let k = n.entry.kind in
      let m = moves-parts (put_at k n) (puts ns) h in
      let r = one_note g k ss n l.0 w m.0 in
      let rest = all_notes g c (after k ss n) ns l.2 r.1 m.1 away in
      let first = r.0 in
      let x = total-append (passed t j) (out_at k n) (outs ns) in
      let y = total-append (passed t j) (put_at k n) (puts ns) in
      let z = total-append (left_for t j) (out_at k n) (outs ns) in
      omega (arith, first, rest, x, y, z)

  pub moves_told : (g : ℕ) (c : Cost) (notes : List Note) → IsLegal g c notes → place_of t (replay [] notes) ≡ Away → HaveMoveAt t j (puts notes)
      → total (passed t j) (outs notes) ≡ total (passed t j) (puts notes) + total (left_for t j) (outs notes)
  moves_told g c notes l away h = let e = all_notes g c [] notes l tt h away in omega (arith, e)
