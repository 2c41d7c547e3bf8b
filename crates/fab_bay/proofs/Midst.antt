-- One berth in the midst of those of a legal history.
use Rattle.std.proofs.Common.{◌≡◌, ℕ, zero, suc, true, List, [], ◌∷◌, ◌++◌, Some, map, refl, sym, ap, ◌∙◌, subst, append_assoc}
use Rattle.std.specs.Prelude.{slice_get, slice_set}
use Rattle.std.proofs.lemmas.List.{map-append}
use Rattle.fab_core.specs.fab_model.specs.Histories.{changed, moved_to, place_of, Inside, Seat}
use Rattle.fab_core.specs.fab_model.proofs.Seats.{changed_mid, place_mid, AreApart}
use Rattle.fab_bay.specs.declared.berth.Berth.{Berth}
use Rattle.fab_bay.specs.Berths.{deed_at, seat}
use Rattle.fab_bay.proofs.Places.{some-equal}

-- those before it and those behind it
record Parted (bs : List Berth) (i : ℕ) (b : Berth) : Type 0 where
  before : List Berth
  behind : List Berth
  is : bs ≡ before ++ b ∷ behind
  set : (c : Berth) → slice_set bs i c ≡ before ++ c ∷ behind

parted : (bs : List Berth) (i : ℕ) (b : Berth) → slice_get bs i ≡ Some b → Parted bs i b
parted [] i b e = let z : ⊥ = cc in absurd z
parted (x ∷ bs) zero b e = record { before = []; behind = bs; is = ap (λ (y : Berth). y ∷ bs) (some-equal x b e); set = λ c. refl }
parted (x ∷ bs) (suc i) b e =
    let p = parted bs i b e in
    record { before = x ∷ p.before; behind = p.behind; is = ap (λ ys. x ∷ ys) p.is; set = λ c. ap (λ ys. x ∷ ys) (p.set c) }

seats_mid : (xs ys : List Berth) (b : Berth) (zs : List Seat) → map (seat true) (xs ++ b ∷ ys) ++ zs ≡ map (seat true) xs ++ seat true b ∷ (map (seat true) ys ++ zs)
seats_mid xs ys b zs = ap (λ (ss : List Seat). ss ++ zs) (map-append (seat true) xs (b ∷ ys)) ∙ append_assoc (map (seat true) xs) (seat true b ∷ map (seat true) ys) zs

module _ (bs : List Berth) (i : ℕ) (b : Berth) (zs : List Seat) (at : slice_get bs i ≡ Some b) (apart : AreApart (map (seat true) bs ++ zs)) where
  split : Parted bs i b
  split = parted bs i b at

  abbrev others : List Seat
  others = map (seat true) split.behind ++ zs

  are : map (seat true) bs ++ zs ≡ map (seat true) split.before ++ seat true b ∷ others
  are = ap (λ (cs : List Berth). map (seat true) cs ++ zs) split.is ∙ seats_mid split.before split.behind b zs

  pub place_at : place_of b.tenant (map (seat true) bs ++ zs) ≡ Inside b.since b.noted true (deed_at b)
  place_at = ap (place_of b.tenant) are ∙ place_mid (map (seat true) split.before) others (seat true b) (subst AreApart are apart)

  -- only its last note's tick changes
  pub changed_at : (k : ℕ) → changed b.tenant (moved_to k) (map (seat true) bs ++ zs) ≡ map (seat true) (slice_set bs i (record b { noted = k })) ++ zs
  changed_at k =
      ap (changed b.tenant (moved_to k)) are
      ∙ (changed_mid (moved_to k) (map (seat true) split.before) others (seat true b) (subst AreApart are apart)
      ∙ (sym (seats_mid split.before split.behind (record b { noted = k }) zs)
      ∙ ap (λ (cs : List Berth). map (seat true) cs ++ zs) (sym (split.set (record b { noted = k })))))
