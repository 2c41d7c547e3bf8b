-- Marks of cells that are needed.
use Rattle.std.proofs.Common.{◌≡◌, inl, inr, ℕ, ◌+◌, ◌<◌, ◌≤◌, Bool, true, false, List, [], ◌∷◌, ◌++◌, length, map, take, get_or, refl, sym, ◌∙◌, arith, subst}
use Rattle.std.specs.Prelude.{◌⊎◌}
use Rattle.std.specs.List.{flat_map}
use Rattle.std.proofs.lemmas.List.{length-map, take_more, get_or_past, flat_map_more}
use Rattle.std.proofs.lemmas.List.Elements.{Contains-append_left, Contains-append_right, Contains-append_cases}
use Rattle.std.proofs.lemmas.Bool.{false≢true, cases_eq}
use Rattle.cell_emit.specs.cell_form.specs.Data.{CellData}
use Rattle.cell_trim.specs.Marks.{on, Names, args_at, Marked, Closes, AreMarked}
pub use Rattle.cell_emit.specs.vl_base.proofs.Booleans.{never_both as apart}

-- ---- slots that name a cell

module _ (first k : ℕ) where
  pub names-none : Names first [] k → ⊥
  names-none m = let lt = m.1.1 in omega arith

  pub names-left : (xs ys : List ℕ) → Names first xs k → Names first (xs ++ ys) k
  names-left xs ys m = (m.0, Contains-append_left xs ys m.0 m.1, m.2)

  pub names-right : (xs ys : List ℕ) → Names first ys k → Names first (xs ++ ys) k
  names-right xs ys m = (m.0, Contains-append_right xs ys m.0 m.1, m.2)

  pub names-cases : (xs ys : List ℕ) → Names first (xs ++ ys) k → Names first xs k ⊎ Names first ys k
  names-cases xs ys m =
      elim (Contains-append_cases xs ys m.0 m.1) [
        | inl c ↦ inl (m.0, c, m.2)
        | inr c ↦ inr (m.0, c, m.2)
      ]

  -- behind all cells there are no operands
  pub names-past : (cells : List CellData) (j : ℕ) → length cells ≤ j → Names first (args_at cells j) k → ⊥
  names-past cells j past m =
      let F : List ℕ → Type 0 = λ xs. Names first xs k in
      let long = length-map cells (λ (c : CellData). c.args) in
      names-none (subst F (get_or_past (map (λ (c : CellData). c.args) cells) j [] (omega arith)) m)

-- ---- marks by slots

pub marked-none : (first n : ℕ) (marks : List Bool) → Marked first n [] marks marks
marked-none first n marks = record {
  long = refl;
  stays = λ k h. h;
  named = λ k lt m. absurd (names-none first k m);
  only = λ k h. inl h;
}

pub marked-then : (first n : ℕ) (xs ys : List ℕ) (a b c : List Bool) → Marked first n xs a b → Marked first n ys b c → Marked first n (xs ++ ys) a c
marked-then first n xs ys a b c g h = record {
  long = h.long ∙ g.long;
  stays = λ k e. h.stays k (g.stays k e);
  named = λ k lt m. elim (names-cases first k xs ys m) [
    | inl p ↦ h.stays k (g.named k lt p)
    | inr p ↦ h.named k lt p
  ];
  only = λ k e. elim (h.only k e) [
    | inl p ↦ elim (g.only k p) [ inl q ↦ inl q | inr q ↦ inr (q.0, names-left first k xs ys q.1) ]
    | inr p ↦ inr (p.0, names-right first k xs ys p.1)
  ];
}

pub marked-more : (first n : ℕ) (slots : List ℕ) (i d : ℕ) (a b c : List Bool) → i < length slots → Marked first n (take i slots) a b →
    Marked first n (get_or slots i d ∷ []) b c → Marked first n (take (i + 1) slots) a c
marked-more first n slots i d a b c lt g h =
    let F : List ℕ → Type 0 = λ ys. Marked first n ys a c in
    subst F (sym (take_more slots i d lt)) (marked-then first n (take i slots) (get_or slots i d ∷ []) a b c g h)

-- by the slots that each of some things has
pub marked-each : {X : Type 0} (f : X → List ℕ) (first n : ℕ) (xs : List X) (i : ℕ) (d : X) (a b c : List Bool) → i < length xs →
    Marked first n (flat_map f (take i xs)) a b → Marked first n (f (get_or xs i d)) b c → Marked first n (flat_map f (take (i + 1) xs)) a c
marked-each {X} f first n xs i d a b c lt g h =
    let F : List ℕ → Type 0 = λ ys. Marked first n ys a c in
    let G : List X → Type 0 = λ ys. Marked first n (flat_map f ys) a c in
    subst G (sym (take_more xs i d lt)) (subst F (flat_map_more f [] (take i xs) (get_or xs i d))
    (marked-then first n (flat_map f (take i xs)) (f (get_or xs i d)) a b c g h))

-- ---- marks of what marked cells need

-- a cell that is marked
pub closes-with : (first i : ℕ) (cells : List CellData) (a b c : List Bool) → on b i ≡ true → Closes first (i + 1) cells a b →
    Marked first i (args_at cells i) b c → Closes first i cells a c
closes-with first i cells a b c here g h = record {
  long = h.long ∙ g.long;
  stays = λ k e. h.stays k (g.stays k e);
  closed = λ j k le e lt m. elim (cases_eq j i) [
    | inl same ↦ (
        let F : ℕ → Type 0 = λ z. Names first (args_at cells z) k in
        h.named k (omega arith) (subst F same m))
    | inr other ↦ elim (h.only j e) [
      | inl p ↦ h.stays k (g.closed j k (omega arith) p lt m)
      | inr p ↦ (let low = p.0 in absurd (omega arith))
    ]
  ];
  only = λ k e. elim (h.only k e) [
    | inl p ↦ elim (g.only k p) [ inl q ↦ inl q | inr u ↦ inr (u.0, u.1, h.stays u.0 u.2, u.3) ]
    | inr p ↦ inr (i, p.0, h.stays i here, p.1)
  ];
}

-- ---- both

pub are-marked : (first : ℕ) (cells : List CellData) (slots : List ℕ) (off a b : List Bool) → length off ≡ length cells → ((k : ℕ) → on off k ≡ false) →
    Marked first (length cells) slots off a → Closes first 0 cells a b → AreMarked first cells slots b
are-marked first cells slots off a b long none g h = record {
  long = h.long ∙ g.long ∙ long;
  named = λ k lt m. h.stays k (g.named k lt m);
  closed = λ j k e lt m. h.closed j k (omega arith) e lt m;
  only = λ k e. elim (h.only k e) [
    | inl p ↦ elim (g.only k p) [ inl q ↦ absurd (apart (on off k) q (none k)) | inr q ↦ inl q.1 ]
    | inr u ↦ inr u
  ];
}
