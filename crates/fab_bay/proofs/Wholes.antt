-- Runs that are noted at the end of a call, each once.
use Rattle.std.proofs.Common.{◌≡◌, ℕ, zero, suc, ◌<◌, ◌≤◌, Bool, true, false, Some, List, [], ◌∷◌, ◌++◌, refl, sym, ap, ◌∙◌, subst, append_assoc, arith}
use Rattle.std.specs.Prelude.{◌==◌, if◌then◌else◌, slice_get, ⊤}
use Rattle.std.proofs.lemmas.List.{append-nil, append_cancel_left}
use Rattle.fab_core.specs.fab_model.specs.Fabrics.{Fabric}
use Rattle.fab_core.specs.fab_model.specs.declared.note.Note.{Note}
use Rattle.fab_core.specs.fab_model.specs.Histories.{place_of, Away}
use Rattle.fab_bay.specs.declared.berth.Berth.{Berth}
use Rattle.fab_bay.specs.declared.noted.NotedCore.{NotedCore}
use Rattle.fab_bay.specs.Berths.{seats}
use Rattle.fab_bay.specs.Marks.{is_run, runs_next, AreWhole, IsRunOf}
use Rattle.fab_bay.specs.Standing.{IsNoted}
use Rattle.fab_bay.proofs.Places.{some-equal}
use Rattle.fab_core.specs.fab_model.proofs.Seats.{apart_legal, away_tail, eqb_flip, AreApart}

-- none of them is of this tenant
abbrev pub AreOthers : ℕ → List Note → Type 0
AreOthers t [] = ⊤
AreOthers t (n ∷ ns) = ((n.entry.tenant == t) ≡ false) × AreOthers t ns

others-append : (t : ℕ) (xs ys : List Note) → AreOthers t xs → AreOthers t ys → AreOthers t (xs ++ ys)
others-append t [] ys a b = b
others-append t (x ∷ xs) ys a b = (a.0, others-append t xs ys a.1 b)

others-run : (t u : ℕ) (rs : List Note) → IsRunOf t rs → (t == u) ≡ false → AreOthers u rs
others-run t u [] h e = tt
others-run t u (n ∷ []) h e = (ap (λ (k : ℕ). k == u) h.1 ∙ e, tt)
others-run t u (n ∷ m ∷ rs) h e = absurd h

-- one run more, of a tenant of which there are none
next-other : (u t : ℕ) (xs rs : List Note) → (u == t) ≡ false → runs_next u xs ≡ false → IsRunOf t rs → runs_next u (xs ++ rs) ≡ false
next-other u t [] [] e h r = refl
next-other u t [] (n ∷ []) e h r = ap (λ (v : Bool). if v then is_run n.entry.kind else false) (ap (λ (k : ℕ). k == u) r.1 ∙ eqb_flip u t e)
next-other u t [] (n ∷ m ∷ rs) e h r = absurd r
next-other u t (x ∷ xs) rs e h r = by (x.entry.tenant == u) h (λ i. next-other u t xs rs e i r)
  where
    by : (v : Bool) → (if v then is_run x.entry.kind else runs_next u xs) ≡ false → (runs_next u xs ≡ false → runs_next u (xs ++ rs) ≡ false)
        → (if v then is_run x.entry.kind else runs_next u (xs ++ rs)) ≡ false
    by true i f = i
    by false i f = f i

whole-run : (t : ℕ) (rs : List Note) → IsRunOf t rs → AreWhole rs
whole-run t [] r = tt
whole-run t (n ∷ []) r = (λ e. refl, tt)
whole-run t (n ∷ m ∷ rs) r = absurd r

whole-more : (t : ℕ) (xs rs : List Note) → AreWhole xs → AreOthers t xs → IsRunOf t rs → AreWhole (xs ++ rs)
whole-more t [] rs w o r = whole-run t rs r
whole-more t (x ∷ xs) rs w o r = (λ e. next-other x.entry.tenant t xs rs o.0 (w.0 e) r, whole-more t xs rs w.1 o.1 r)

-- ---- berths apart

away-at : (t : ℕ) (bs ws : List Berth) (j : ℕ) (c : Berth) → place_of t (seats bs ws) ≡ Away → slice_get bs j ≡ Some c → (c.tenant == t) ≡ false
away-at t [] ws j c a e = let z : ⊥ = cc in absurd z
away-at t (b ∷ bs) ws zero c a e = ap (λ (d : Berth). d.tenant == t) (sym (some-equal b c e)) ∙ (away_tail t _ (seats bs ws) a).0
away-at t (b ∷ bs) ws (suc j) c a e = away-at t bs ws j c (away_tail t _ (seats bs ws) a).1 e

apart-at : (bs ws : List Berth) (i j : ℕ) (b c : Berth) → AreApart (seats bs ws) → slice_get bs i ≡ Some b → slice_get bs j ≡ Some c → i < j → (b.tenant == c.tenant) ≡ false
apart-at [] ws i j b c a e g l = let z : ⊥ = cc in absurd z
apart-at (x ∷ bs) ws zero zero b c a e g l = absurd (omega (arith, l))
apart-at (x ∷ bs) ws zero (suc j) b c a e g l = ap (λ (d : Berth). d.tenant == c.tenant) (sym (some-equal x b e)) ∙ eqb_flip c.tenant x.tenant (away-at x.tenant bs ws j c a.0 g)
apart-at (x ∷ bs) ws (suc i) zero b c a e g l = absurd (omega (arith, l))
apart-at (x ∷ bs) ws (suc i) (suc j) b c a e g l = apart-at bs ws i j b c a.1 e g (omega (arith, l))

pub noted-apart : (x : NotedCore) (f : Fabric) → IsNoted x f → AreApart (seats x.berths.items x.waiting.items)
noted-apart x f h = subst AreApart h.replayed (apart_legal x.label.fabric x.label.capacity x.notes.items h.legal)

-- ---- what is written so far, up to a place

pub record IsOnce (x y : NotedCore) (place : ℕ) (added : List Note) : Type 0 where
  pub whole : AreWhole added
  pub others : (j : ℕ) (c : Berth) → place ≤ j → slice_get y.berths.items j ≡ Some c → AreOthers c.tenant added

pub once-none : (x : NotedCore) (added : List Note) → x.notes.items ≡ x.notes.items ++ added → IsOnce x x 0 added
once-none x added e =
    subst (λ (ns : List Note). IsOnce x x 0 ns) (append_cancel_left x.notes.items [] added (append-nil x.notes.items ∙ e)) (record { whole = tt; others = λ j c l g. tt })

pub once-more : (x s y : NotedCore) (i k : ℕ) (b : Berth) (a d added : List Note) → AreApart (seats s.berths.items s.waiting.items) → slice_get s.berths.items i ≡ Some b → i < k
    → ((j : ℕ) → i < j → slice_get y.berths.items j ≡ slice_get s.berths.items j) → s.notes.items ≡ x.notes.items ++ a → y.notes.items ≡ s.notes.items ++ d → y.notes.items ≡ x.notes.items ++ added
    → IsOnce x s i a → IsRunOf b.tenant d → IsOnce x y k added
once-more x s y i k b a d added apart at l same e g h o r =
    subst (λ (ns : List Note). IsOnce x y k ns)
    (append_cancel_left x.notes.items (a ++ d) added (sym (append_assoc x.notes.items a d) ∙ (ap (λ (ns : List Note). ns ++ d) (sym e) ∙ (sym g ∙ h))))
    (record {
      whole = whole-more b.tenant a d o.whole (o.others i b (omega arith) at) r;
      others = λ j c m n.
          let lt : i < j = omega (arith, l, m) in
          let here : slice_get s.berths.items j ≡ Some c = sym (same j lt) ∙ n in
          others-append c.tenant a d (o.others j c (omega (arith, lt)) here) (others-run b.tenant c.tenant d r (apart-at s.berths.items s.waiting.items i j b c apart at here lt));
    })
