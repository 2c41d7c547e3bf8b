-- How many signals and words there are behind signals, and behind parts.
use Rattle.std.proofs.Common.{◌≡◌, ℕ, ◌+◌, ◌≤◌, Bool, true, false, cond, List, [], ◌∷◌, ◌++◌, length, refl, sym, ap, ◌∙◌, subst, arith}
use Rattle.std.specs.Prelude.{fold}
use Rattle.std.specs.List.{sum_by, AllByRecursion}
use Rattle.std.proofs.lemmas.List.{length-append}
use Rattle.std.proofs.lemmas.List.Elements.{filter-append}
use Rattle.std.proofs.lemmas.List.Sums.{sum_by-append, sum_by-cons}
use Rattle.vl_sound.specs.vl_base.specs.declared.place.Place.{Place}
use Rattle.ten_plan.specs.vl_design.specs.declared.design.Signal.{Signal}
use Rattle.vl_sound.specs.vl_flat.specs.Flat.{Part}
use Rattle.vl_sound.specs.vl_flat.specs.Outcome.{Totals, is_counted, memory_words, with_signal, with_instance, with_part}
use Rattle.elab_laws.specs.Limited.{counted}

-- ---- lists

each-append : {X : Type 0} (P : X → Type 0) (xs ys : List X) → AllByRecursion P xs → AllByRecursion P ys → AllByRecursion P (xs ++ ys)
each-append P [] ys h k = k
each-append P (x ∷ xs) ys h k = (h.0, each-append P xs ys h.1 k)

-- ---- totals

one-more : (c : Bool) (n : ℕ) (r : Signal) (rs : List Signal) → (cond c (n + 1) n) + length rs ≡ n + length (cond c (r ∷ rs) rs)
one-more true n r rs = omega arith
one-more false n r rs = refl

pub signals-behind : (n : Totals) (rs : List Signal) → (fold with_signal n rs).signals ≡ n.signals + length (counted rs)
signals-behind n [] = omega arith
signals-behind n (r ∷ rs) = signals-behind (with_signal n r) rs ∙ one-more (is_counted r.kind) n.signals r (counted rs)

pub words-behind : (n : Totals) (rs : List Signal) → (fold with_signal n rs).words ≡ n.words + sum_by memory_words rs
words-behind n [] = omega arith
words-behind n (r ∷ rs) = words-behind (with_signal n r) rs ∙ omega (arith, sum_by-cons memory_words r rs)

same-signals : (n : Totals) (bs : List Place) → (fold with_instance n bs).signals ≡ n.signals
same-signals n [] = refl
same-signals n (b ∷ bs) = same-signals (with_instance n b) bs

same-words : (n : Totals) (bs : List Place) → (fold with_instance n bs).words ≡ n.words
same-words n [] = refl
same-words n (b ∷ bs) = same-words (with_instance n b) bs

pub part-signals : (n : Totals) (a : Part) → (with_part n a).signals ≡ n.signals + length (counted a.signals)
part-signals n a = signals-behind (fold with_instance n a.begins) a.signals ∙ ap (λ k. k + length (counted a.signals)) (same-signals n a.begins)

pub part-words : (n : Totals) (a : Part) → (with_part n a).words ≡ n.words + sum_by memory_words a.signals
part-words n a = words-behind (fold with_instance n a.begins) a.signals ∙ ap (λ k. k + sum_by memory_words a.signals) (same-words n a.begins)

-- ---- signals within the limits, where there are so many before them

pub record Within (n : Totals) (rs : List Signal) : Type 0 where
  pub names : AllByRecursion (λ r. length r.name ≤ 255) (counted rs)
  pub signals : n.signals + length (counted rs) ≤ 16384
  pub words : AllByRecursion (λ r. memory_words r ≤ 65536) rs
  pub all_words : n.words + sum_by memory_words rs ≤ 262144

pub within-append : (n m : Totals) (xs ys : List Signal) → m.signals ≡ n.signals + length (counted xs) → m.words ≡ n.words + sum_by memory_words xs → Within n xs → Within m ys → Within n (xs ++ ys)
within-append n m xs ys signals words h k =
    let split : counted (xs ++ ys) ≡ counted xs ++ counted ys = filter-append (λ (r : Signal). is_counted r.kind) xs ys in
    record {
      names = subst (AllByRecursion (λ (r : Signal). length r.name ≤ 255)) (sym split) (each-append (λ (r : Signal). length r.name ≤ 255) (counted xs) (counted ys) h.names k.names);
      signals = omega (arith, ap length split, length-append (counted xs) (counted ys), signals, k.signals);
      words = each-append (λ r. memory_words r ≤ 65536) xs ys h.words k.words;
      all_words = omega (arith, sum_by-append memory_words xs ys, words, k.all_words);
    }
