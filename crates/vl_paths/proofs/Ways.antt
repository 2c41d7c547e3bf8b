-- Paths against sets.
use Rattle.std.proofs.Common.{◌≡◌, ℕ, Bool, true, false, List, [], ◌∷◌, ◌++◌, refl, sym, ◌∙◌, ap, arith}
use Rattle.std.specs.Prelude.{◌||◌, ◌&&◌, not, ◌⊎◌, ◌↔◌}
use mathlib.Core.Logic.{inl, inr}
use Rattle.vl_design.specs.Syntax.{Exp, Exps, NoExps, MoreExps, Target, Stm, Nop, Then, If, Case, For, Repeat, Set, Later, Sys, Items, NoItems, Labelled, Default}
use Rattle.vl_design.specs.Width.{Names}
use Rattle.vl_paths.specs.Bits.{Bit, bit_read, index_reads, bit_set}
use Rattle.vl_paths.specs.Paths.{Step, Looks, Tries, Sets, IsPath, IsWay, assigned_on, read_first_on, IsAssigned, IsReadFirst, always, always_in, early, early_in, label_reads}
pub use Rattle.vl_design.specs.vl_base.proofs.Booleans.{and_parts as and_true, or_right_true as or_right, or_left_true as or_left, and_both as both_true, or_assoc, or_cases as or_true, or_parts_false as or_false, true_or_false as either}
use Rattle.vl_design.specs.vl_base.proofs.Booleans.{not_true_false as not_true, and_of_false as and_right}

pub and_false : (a b : Bool) → (a && b) ≡ false → (a ≡ false) ⊎ (b ≡ false)
and_false true b h = inr h
and_false false b h = inl refl

-- x read, or else y where x isn't set, over a joined path
fold_read : (x s a r y : Bool) → (x || (not s && (r || (not a && y)))) ≡ ((x || (not s && r)) || (not (s || a) && y))
fold_read true s a r y = refl
fold_read false true a r y = refl
fold_read false false a r y = refl

not_early : (a y : Bool) → a ≡ false → (not a && y) ≡ false → y ≡ false
not_early true y g h = let z : ⊥ = cc in absurd z
not_early false y g h = h

module _ (names : Names) (b : Bit) where
  assigned_joined : (p q : List Step) → assigned_on names b (p ++ q) ≡ (assigned_on names b p || assigned_on names b q)
  assigned_joined [] q = refl
  assigned_joined (Looks e ∷ p) q = assigned_joined p q
  assigned_joined (Tries e items ∷ p) q = assigned_joined p q
  assigned_joined (Sets t e ∷ p) q = rw (assigned_joined p q) (sym (or_assoc (bit_set names false b t) (assigned_on names b p) (assigned_on names b q)))

  read_joined : (p q : List Step) → read_first_on names b (p ++ q) ≡ (read_first_on names b p || (not (assigned_on names b p) && read_first_on names b q))
  read_joined [] q = refl
  read_joined (Looks e ∷ p) q = rw (read_joined p q) (sym (or_assoc (bit_read names b e) (read_first_on names b p) (not (assigned_on names b p) && read_first_on names b q)))
  read_joined (Tries e items ∷ p) q = rw (read_joined p q) (sym (or_assoc (bit_read names b e || label_reads names b items) (read_first_on names b p) (not (assigned_on names b p) && read_first_on names b q)))
  read_joined (Sets t e ∷ p) q = rw (read_joined p q) (fold_read (index_reads names b t || bit_read names b e) (bit_set names false b t) (assigned_on names b p) (read_first_on names b p) (read_first_on names b q))

  mutual
    some_path : (a : Stm) → (p : List Step) × IsPath a p
    some_path (Then x y) = let q = some_path x in let r = some_path y in (q.0 ++ r.0, (q.0, r.0, q.1, r.1, refl))
    some_path (If t x y) = let q = some_path x in (Looks t ∷ q.0, (q.0, inl q.1, refl))
    some_path (Case e items) = let q = some_way items in (Tries e items ∷ q.0, (q.0, q.1, refl))
    some_path (Set t e) = (Sets t e ∷ [], refl)
    some_path Nop = ([], refl)
    some_path (For k start test step a) = ([], refl)
    some_path (Repeat n a) = ([], refl)
    some_path (Later t e) = ([], refl)
    some_path (Sys task) = ([], refl)

    some_way : (items : Items) → (p : List Step) × IsWay true items p
    some_way NoItems = ([], (refl, refl))
    some_way (Labelled es a others) = let q = some_path a in (q.0, inl q.1)
    some_way (Default a others) = let q = some_path a in (q.0, inl q.1)

  -- what is in the set is assigned on each path
  mutual
    assigned : (a : Stm) → always names b a ≡ true → (p : List Step) → IsPath a p → assigned_on names b p ≡ true
    assigned (Then x y) h p w = rw (w.4, assigned_joined w.0 w.1) (
        elim (or_true (always names b x) (always names b y) h) [
          | inl g ↦ or_left (assigned_on names b w.0) (assigned_on names b w.1) (assigned x g w.0 w.2)
          | inr g ↦ or_right (assigned_on names b w.0) (assigned_on names b w.1) (assigned y g w.1 w.3)
        ])
    assigned (If t x y) h p w = let g = and_true (always names b x) (always names b y) h in rw w.2 (
        elim w.1 [ inl v ↦ assigned x g.0 w.0 v | inr v ↦ assigned y g.1 w.0 v ])
    assigned (Case e items) h p w = rw w.2 (assigned_in items true h w.0 w.1)
    assigned (Set t e) h p w = rw w (or_left (bit_set names false b t) false h)
    assigned Nop h p w = let z : ⊥ = cc in absurd z
    assigned (For k start test step a) h p w = let z : ⊥ = cc in absurd z
    assigned (Repeat n a) h p w = let z : ⊥ = cc in absurd z
    assigned (Later t e) h p w = let z : ⊥ = cc in absurd z
    assigned (Sys task) h p w = let z : ⊥ = cc in absurd z

    assigned_in : (items : Items) (o : Bool) → always_in names b o items ≡ true → (p : List Step) → IsWay o items p → assigned_on names b p ≡ true
    assigned_in NoItems true h p w = let z : ⊥ = cc in absurd z
    assigned_in NoItems false h p w = let e = w.0 in let z : ⊥ = cc in absurd z
    assigned_in (Labelled es a others) o h p w = let g = and_true (always names b a) (always_in names b o others) h in
        elim w [ inl v ↦ assigned a g.0 p v | inr v ↦ assigned_in others o g.1 p v ]
    assigned_in (Default a others) o h p w = let g = and_true (always names b a) (always_in names b false others) h in
        elim w [ inl v ↦ assigned a g.0 p v | inr v ↦ assigned_in others false g.1 p v ]

  -- what isn't in the set is left unassigned on some path
  mutual
    unassigned : (a : Stm) → always names b a ≡ false → (p : List Step) × IsPath a p × (assigned_on names b p ≡ false)
    unassigned (Then x y) h =
        let g = or_false (always names b x) (always names b y) h in
        let q = unassigned x g.0 in
        let r = unassigned y g.1 in
        (q.0 ++ r.0, (q.0, r.0, q.1, r.1, refl), rw (assigned_joined q.0 r.0, q.2) r.2)
    unassigned (If t x y) h = elim (and_false (always names b x) (always names b y) h) [
      | inl g ↦ let q = unassigned x g in (Looks t ∷ q.0, (q.0, inl q.1, refl), q.2)
      | inr g ↦ let q = unassigned y g in (Looks t ∷ q.0, (q.0, inr q.1, refl), q.2)
    ]
    unassigned (Case e items) h = let q = unassigned_in items true h in (Tries e items ∷ q.0, (q.0, q.1, refl), q.2)
    unassigned (Set t e) h = (Sets t e ∷ [], refl, rw h refl)
    unassigned Nop h = ([], refl, refl)
    unassigned (For k start test step a) h = ([], refl, refl)
    unassigned (Repeat n a) h = ([], refl, refl)
    unassigned (Later t e) h = ([], refl, refl)
    unassigned (Sys task) h = ([], refl, refl)

    unassigned_in : (items : Items) (o : Bool) → always_in names b o items ≡ false → (p : List Step) × IsWay o items p × (assigned_on names b p ≡ false)
    unassigned_in NoItems true h = ([], (refl, refl), refl)
    unassigned_in NoItems false h = let z : ⊥ = cc in absurd z
    unassigned_in (Labelled es a others) o h = elim (and_false (always names b a) (always_in names b o others) h) [
      | inl g ↦ let q = unassigned a g in (q.0, inl q.1, q.2)
      | inr g ↦ let q = unassigned_in others o g in (q.0, inr q.1, q.2)
    ]
    unassigned_in (Default a others) o h = elim (and_false (always names b a) (always_in names b false others) h) [
      | inl g ↦ let q = unassigned a g in (q.0, inl q.1, q.2)
      | inr g ↦ let q = unassigned_in others false g in (q.0, inr q.1, q.2)
    ]

  -- what is in the set of reads is read first on some path
  mutual
    read : (a : Stm) → early names b a ≡ true → IsReadFirst names b a
    read (Then x y) h = elim (or_true (early names b x) (not (always names b x) && early names b y) h) [
      | inl g ↦
          let q = read x g in
          let r = some_path y in
          (q.0 ++ r.0, (q.0, r.0, q.1, r.1, refl), rw (read_joined q.0 r.0) (or_left (read_first_on names b q.0) (not (assigned_on names b q.0) && read_first_on names b r.0) q.2))
      | inr g ↦
          let f = and_true (not (always names b x)) (early names b y) g in
          let q = unassigned x (not_true (always names b x) f.0) in
          let r = read y f.1 in
          (q.0 ++ r.0, (q.0, r.0, q.1, r.1, refl), rw (read_joined q.0 r.0, q.2) (or_right (read_first_on names b q.0) (read_first_on names b r.0) r.2))
    ]
    read (If t x y) h = elim (or_true (bit_read names b t) (early names b x || early names b y) h) [
      | inl g ↦ let q = some_path x in (Looks t ∷ q.0, (q.0, inl q.1, refl), or_left (bit_read names b t) (read_first_on names b q.0) g)
      | inr g ↦ elim (or_true (early names b x) (early names b y) g) [
        | inl f ↦ let q = read x f in (Looks t ∷ q.0, (q.0, inl q.1, refl), or_right (bit_read names b t) (read_first_on names b q.0) q.2)
        | inr f ↦ let q = read y f in (Looks t ∷ q.0, (q.0, inr q.1, refl), or_right (bit_read names b t) (read_first_on names b q.0) q.2)
      ]
    ]
    read (Case e items) h = elim (or_true (bit_read names b e || label_reads names b items) (early_in names b items) h) [
      | inl g ↦ let q = some_way items in (Tries e items ∷ q.0, (q.0, q.1, refl), or_left (bit_read names b e || label_reads names b items) (read_first_on names b q.0) g)
      | inr g ↦ let q = read_in items true g in (Tries e items ∷ q.0, (q.0, q.1, refl), or_right (bit_read names b e || label_reads names b items) (read_first_on names b q.0) q.2)
    ]
    read (Set t e) h = (Sets t e ∷ [], refl, or_left (index_reads names b t || bit_read names b e) (not (bit_set names false b t) && false) h)
    read Nop h = let z : ⊥ = cc in absurd z
    read (For k start test step a) h = let z : ⊥ = cc in absurd z
    read (Repeat n a) h = let z : ⊥ = cc in absurd z
    read (Later t e) h = let z : ⊥ = cc in absurd z
    read (Sys task) h = let z : ⊥ = cc in absurd z

    read_in : (items : Items) (o : Bool) → early_in names b items ≡ true → (p : List Step) × IsWay o items p × (read_first_on names b p ≡ true)
    read_in NoItems o h = let z : ⊥ = cc in absurd z
    read_in (Labelled es a others) o h = elim (or_true (early names b a) (early_in names b others) h) [
      | inl g ↦ let q = read a g in (q.0, inl q.1, q.2)
      | inr g ↦ let q = read_in others o g in (q.0, inr q.1, q.2)
    ]
    read_in (Default a others) o h = elim (or_true (early names b a) (early_in names b others) h) [
      | inl g ↦ let q = read a g in (q.0, inl q.1, q.2)
      | inr g ↦ let q = read_in others false g in (q.0, inr q.1, q.2)
    ]

  -- what is read first on some path is in the set
  mutual
    unread : (a : Stm) → early names b a ≡ false → (p : List Step) → IsPath a p → read_first_on names b p ≡ false
    unread (Then x y) h p w =
        let g = or_false (early names b x) (not (always names b x) && early names b y) h in
        rw (w.4, read_joined w.0 w.1, unread x g.0 w.0 w.2) (elim (either (always names b x)) [
          | inl f ↦ rw (assigned x f w.0 w.2) refl
          | inr f ↦ and_right (not (assigned_on names b w.0)) (read_first_on names b w.1) (unread y (not_early (always names b x) (early names b y) f g.1) w.1 w.3)
        ])
    unread (If t x y) h p w =
        let g = or_false (bit_read names b t) (early names b x || early names b y) h in
        let f = or_false (early names b x) (early names b y) g.1 in
        rw (w.2, g.0) (elim w.1 [ inl v ↦ unread x f.0 w.0 v | inr v ↦ unread y f.1 w.0 v ])
    unread (Case e items) h p w =
        let g = or_false (bit_read names b e || label_reads names b items) (early_in names b items) h in
        rw (w.2, g.0) (unread_in items true g.1 w.0 w.1)
    unread (Set t e) h p w = rw (w, h) (and_right (not (bit_set names false b t)) false refl)
    unread Nop h p w = rw w refl
    unread (For k start test step a) h p w = rw w refl
    unread (Repeat n a) h p w = rw w refl
    unread (Later t e) h p w = rw w refl
    unread (Sys task) h p w = rw w refl

    unread_in : (items : Items) (o : Bool) → early_in names b items ≡ false → (p : List Step) → IsWay o items p → read_first_on names b p ≡ false
    unread_in NoItems o h p w = rw w.1 refl
    unread_in (Labelled es a others) o h p w = let g = or_false (early names b a) (early_in names b others) h in
        elim w [ inl v ↦ unread a g.0 p v | inr v ↦ unread_in others o g.1 p v ]
    unread_in (Default a others) o h p w = let g = or_false (early names b a) (early_in names b others) h in
        elim w [ inl v ↦ unread a g.0 p v | inr v ↦ unread_in others false g.1 p v ]

  pub assigned_exactly : (a : Stm) → (always names b a ≡ true) ↔ IsAssigned names b a
  assigned_exactly a = (
    assigned a,
    λ h. elim (either (always names b a)) [
      | inl g ↦ g
      | inr g ↦ let q = unassigned a g in let e = h q.0 q.1 in let f = q.2 in let z : ⊥ = cc in absurd z
    ],
  )

  pub read_exactly : (a : Stm) → (early names b a ≡ true) ↔ IsReadFirst names b a
  read_exactly a = (
    read a,
    λ q. elim (either (early names b a)) [
      | inl g ↦ g
      | inr g ↦ let e = unread a g q.0 q.1 in let f = q.2 in let z : ⊥ = cc in absurd z
    ],
  )
