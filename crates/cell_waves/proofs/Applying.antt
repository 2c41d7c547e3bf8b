-- The writes of an update of words.
use Rattle.std.proofs.Common.{◌≡◌, ◌≢◌, ℕ, ◌<◌, Bool, true, false, List, [], ◌∷◌, ◌++◌, length, map, Option, Some, None, refl, ap, ◌∙◌, arith, subst, inl, inr}
use Rattle.std.specs.Prelude.{◌⊎◌, ◌==◌, if◌then◌else◌}
use Rattle.std.specs.List.{AllByRecursion}
use Rattle.std.proofs.lemmas.List.Elements.{recursion_from_All}
use Rattle.ten_form.specs.vl_design.specs.Width.{Names}
use Rattle.cell_emit.specs.cell_form.specs.declared.cell.Write.{Write}
use Rattle.cell_emit.specs.cell_form.specs.declared.cell.Write.TheVariants as w
use Rattle.cell_emit.specs.cell_form.specs.Data.{ListData}
use Rattle.cell_emit.specs.cell_form.specs.Sound.{Shape, IsWrite}
use Rattle.cell_emit.specs.Slots.{IsIn}
use Rattle.cell_emit.specs.declared.pending.Site.{Site}
use Rattle.cell_emit.specs.Pendings.{IsSite}
use Rattle.cell_waves.specs.Lasts.{later_of, written_from, last_write}
use Rattle.cell_waves.proofs.Lasting.{last-more}
use Rattle.ten_form.specs.declared.store.Store.{Store}
use Rattle.ten_form.specs.Holding.{enable_register}
use Rattle.cell_waves.specs.Reading.{HasStore}
use Rattle.cell_waves.specs.Keeping.{each_written}
use Rattle.cell_waves.specs.Applying.{apply_writes, Applies}
use Rattle.cell_waves.proofs.Listing.{all-both, all-from, same-long}
use Rattle.cell_waves.proofs.Keeping.{from-here, from-other}

-- ---- the last writes

module _ (here : ℕ) where
  abbrev pub updates : List Store → List Site → List Write
  updates = each_written (apply_writes here)

  -- the last write of a register, behind a store's
  behind : (x : Store) (r : ℕ) (o : Option ℕ) → Option ℕ
  behind x r o = later_of None (later_of (written_from (w.Reg (enable_register x) here) r) o)

  last-first : (x : Store) (s : Site) (xs : List Store) (ss : List Site) (r : ℕ) (o : Option ℕ) → last_write (updates xs ss) r ≡ o → last_write (updates (x ∷ xs) (s ∷ ss)) r ≡ behind x r o
  unfolding behind
  last-first x s xs ss r o e = ap (behind x r) e

  behind-some : (x : Store) (r : ℕ) → behind x r (Some here) ≡ Some here
  unfolding behind
  behind-some x r = refl

  behind-none : (x : Store) (r : ℕ) (o : Option ℕ) → written_from (w.Reg (enable_register x) here) r ≡ o → behind x r None ≡ later_of None o
  unfolding behind
  behind-none x r o e = ap (later_of None) e

  -- a register is set to 0, or not at all
  pub either : (xs : List Store) (ss : List Site) (r : ℕ) → (last_write (updates xs ss) r ≡ None) ⊎ (last_write (updates xs ss) r ≡ Some here)
  either [] ss r = inl refl
  either (x ∷ xs) [] r = inl refl
  either (x ∷ xs) (s ∷ ss) r = of (either xs ss r)
    where
      one : (t : Bool) → (x.first == r) ≡ t → last_write (updates xs ss) r ≡ None → (last_write (updates (x ∷ xs) (s ∷ ss)) r ≡ None) ⊎ (last_write (updates (x ∷ xs) (s ∷ ss)) r ≡ Some here)
      one true q e = inr (last-first x s xs ss r None e ∙ behind-none x r (Some here) (ap (λ t. if t then Some here else None) q))
      one false q e = inl (last-first x s xs ss r None e ∙ behind-none x r None (ap (λ t. if t then Some here else None) q))

      of : (last_write (updates xs ss) r ≡ None) ⊎ (last_write (updates xs ss) r ≡ Some here) → (last_write (updates (x ∷ xs) (s ∷ ss)) r ≡ None) ⊎ (last_write (updates (x ∷ xs) (s ∷ ss)) r ≡ Some here)
      of (inl e) = one (x.first == r) refl e
      of (inr e) = inr (last-first x s xs ss r (Some here) e ∙ behind-some x r)

  -- a register that says of no store whether it writes a word
  pub none-of : (xs : List Store) (ss : List Site) (r : ℕ) → AllByRecursion (λ x. r ≢ enable_register x) xs → last_write (updates xs ss) r ≡ None
  none-of [] ss r h = refl
  none-of (x ∷ xs) [] r h = refl
  none-of (x ∷ xs) (s ∷ ss) r h = last-first x s xs ss r None (none-of xs ss r h.1) ∙ behind-none x r None (from-other (enable_register x) r here h.0)

  here-first : (x : Store) (s : Site) (xs : List Store) (ss : List Site) → last_write (updates (x ∷ xs) (s ∷ ss)) (enable_register x) ≡ Some here
  here-first x s xs ss = of (either xs ss (enable_register x))
    where
      of : (last_write (updates xs ss) (enable_register x) ≡ None) ⊎ (last_write (updates xs ss) (enable_register x) ≡ Some here) → last_write (updates (x ∷ xs) (s ∷ ss)) (enable_register x) ≡ Some here
      of (inl e) = last-first x s xs ss (enable_register x) None e ∙ behind-none x (enable_register x) (Some here) (from-here (enable_register x) here)
      of (inr e) = last-first x s xs ss (enable_register x) (Some here) e ∙ behind-some x (enable_register x)

  -- and one that does
  pub here-of : (xs : List Store) (ss : List Site) → length xs ≡ length ss → AllByRecursion (λ x. last_write (updates xs ss) (enable_register x) ≡ Some here) xs
  here-of [] ss e = tt
  here-of (x ∷ xs) [] e = absurd (omega (arith, e))
  here-of (x ∷ xs) (s ∷ ss) e = (
    here-first x s xs ss,
    all-from (λ y. last_write (updates xs ss) (enable_register y) ≡ Some here) (λ y. last_write (updates (x ∷ xs) (s ∷ ss)) (enable_register y) ≡ Some here)
        (λ y q. last-first x s xs ss (enable_register y) (Some here) q ∙ behind-some x (enable_register y)) xs (here-of xs ss (omega (arith, e))),
  )

  -- they may be done where the slots and the stores are there
  updates-sound : (names : Names) (z : Shape) (l : ListData) (xs : List Store) (ss : List Site) → map (λ (x : Store). x.memory) xs ≡ map (λ (s : Site). s.memory) ss → AllByRecursion (HasStore z) xs → AllByRecursion (IsSite names l) ss →
      IsIn l here → AllByRecursion (IsWrite z l.first (length l.cells)) (updates xs ss)
  updates-sound names z l [] ss e h k i = tt
  updates-sound names z l (x ∷ xs) [] e h k i = tt
  updates-sound names z l (x ∷ xs) (s ∷ ss) e h k i =
      let room = h.0.0 in
      let same : x.memory ≡ s.memory = cc in
      let more : map (λ (y : Store). y.memory) xs ≡ map (λ (t : Site). t.memory) ss = cc in (
        (subst (λ n. n < z.mems) same h.0.1, k.0.enable.there, k.0.word.there, k.0.value.there, k.0.mask.there),
        ((omega (arith, room), i), updates-sound names z l xs ss more h.1 k.1 i),
      )

  pub applies : (stores : List Store) (sites : List Site) (before after : List Write) → map (λ (x : Store). x.memory) stores ≡ map (λ (s : Site). s.memory) sites → after ≡ before ++ updates stores sites →
      Applies stores sites here before after
  applies stores sites before after e is =
      let ups = updates stores sites in
      record {
        sound = λ names z l h k i g. rw is (all-both (IsWrite z l.first (length l.cells)) before ups g (updates-sound names z l stores sites e h (recursion_from_All (IsSite names l) sites k) i));
        idle = all-from (λ x. last_write ups (enable_register x) ≡ Some here) (λ x. last_write after (enable_register x) ≡ Some here)
            (λ x q. ap (λ ws. last_write ws (enable_register x)) is ∙ last-more before ups (enable_register x) ∙ ap (later_of (last_write before (enable_register x))) q) stores (here-of stores sites (same-long stores sites e));
        others = λ r k. ap (λ ws. last_write ws r) is ∙ last-more before ups r ∙ ap (later_of (last_write before r)) (none-of stores sites r k);
      }
