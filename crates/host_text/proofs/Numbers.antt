-- The numbers of names.
use Rattle.std.specs.Prelude.{suc}
use Rattle.std.proofs.Common.{◌≡◌, ℕ, ◌+◌, ◌<◌, Bool, true, false, if◌then◌else◌, List, [], ◌∷◌, ◌++◌, length, Option, Some, None, option_map, is_some, unwrap_or, Bor, refl, sym, ap, ◌∙◌, arith}
use Rattle.std.specs.Str.{bytes_eq}
use Rattle.std.proofs.lemmas.Bool.{true≢false}
use Rattle.std.proofs.lemmas.Cmp.{nat_list_eq_equiv}
use Rattle.std.proofs.lemmas.Map.Text.{hash_map_updates_str}
use Rattle.std.proofs.lemmas.Slice.Eq.{bytes_eq-Decides}
use Rattle.indexmap.specs.IndexMap.{IndexMap, UpdatesBy}
use Rattle.host_text.specs.Scripts.{number_in}
use Rattle.host_text.specs.Drafts.{value_at}
use Rattle.host_text.proofs.Apart.{some_none}

-- what a map has after a value is put in
pub value_at-insert : {X S : Type 0} (m n : IndexMap (Bor (List ℕ)) X S) (bs : List ℕ) (w : X) → UpdatesBy (λ x y. bytes_eq x.now y.now) (λ k. bytes_eq bs k.now) m n (Some w)
    → (t : List ℕ) → value_at n t ≡ (if bytes_eq t bs then Some w else value_at m t)
value_at-insert m n bs w u t = hash_map_updates_str bs m n (Some w) u t ∙ ap (λ b. if b then Some w else value_at m t) (nat_list_eq_equiv.symm bs t)

abbrev next : Option ℕ → Option ℕ
next o = option_map (λ i. i + 1) o

-- a name that isn't among names is neither the first nor among the others
apart : (b : Bool) (o : Option ℕ) → (if b then Some 0 else next o) ≡ None → (b ≡ false) × (o ≡ None)
apart true o e = absurd (some_none 0 e)
apart false None e = (refl, refl)
apart false (Some i) e = absurd (some_none (i + 1) e)

push_cases : (p q : Bool) (k : ℕ) (x o : Option ℕ) → (p ≡ true → q ≡ true → ⊥) → x ≡ (if q then Some k else o)
    → (if p then Some 0 else next x) ≡ (if q then Some (suc k) else (if p then Some 0 else next o))
push_cases true true k x o h e = absurd (h refl refl)
push_cases true false k x o h e = refl
push_cases false true k x o h e = let one : k + 1 ≡ suc k = omega arith in ap next e ∙ ap Some one
push_cases false false k x o h e = ap next e

-- one more name, which is none of those before
pub number_in-push : (ns : List (List ℕ)) (n t : List ℕ) → number_in ns n ≡ None → number_in (ns ++ n ∷ []) t ≡ (if bytes_eq t n then Some (length ns) else number_in ns t)
number_in-push [] n t none = by (bytes_eq t n)
  where
    by : (b : Bool) → (if b then Some 0 else next None) ≡ (if b then Some 0 else None)
    by true = refl
    by false = refl
number_in-push (m ∷ ms) n t none =
    let off = apart (bytes_eq n m) (number_in ms n) none in
    push_cases (bytes_eq t m) (bytes_eq t n) (length ms) (number_in (ms ++ n ∷ []) t) (number_in ms t) (never off.0) (number_in-push ms n t off.1)
  where
    never : bytes_eq n m ≡ false → bytes_eq t m ≡ true → bytes_eq t n ≡ true → ⊥
    never other a b =
        let am : t ≡ m = (bytes_eq-Decides t m).0 a in
        let an : t ≡ n = (bytes_eq-Decides t n).0 b in
        let same : bytes_eq n m ≡ true = (bytes_eq-Decides n m).1 (sym an ∙ am) in
        true≢false (sym same ∙ other)

-- a number is one of so many
pub number-within : (ns : List (List ℕ)) (name : List ℕ) → is_some (number_in ns name) ≡ true → unwrap_or (number_in ns name) 0 < length ns
number-within [] name e = absurd (true≢false (sym e))
number-within (m ∷ ms) name e = by (bytes_eq name m) (number_in ms name) (number-within ms name) e
  where
    by : (b : Bool) (o : Option ℕ) → (is_some o ≡ true → unwrap_or o 0 < length ms) → is_some (if b then Some 0 else next o) ≡ true
        → unwrap_or (if b then Some 0 else next o) 0 < length (m ∷ ms)
    by true o h e = omega arith
    by false None h e = absurd (true≢false (sym e))
    by false (Some i) h e = let l = h refl in omega (arith, l)

-- a map of numbers, after the next name has got its number
pub numbers-push : {S : Type 0} (old new : IndexMap (Bor (List ℕ)) ℕ S) (ns : List (List ℕ)) (n : List ℕ) (k : ℕ) → k ≡ length ns → number_in ns n ≡ None
    → ((t : List ℕ) → value_at old t ≡ number_in ns t) → ((t : List ℕ) → value_at new t ≡ (if bytes_eq t n then Some k else value_at old t))
    → (t : List ℕ) → value_at new t ≡ number_in (ns ++ n ∷ []) t
numbers-push old new ns n k e none was now t =
    now t ∙ ap (λ o. if bytes_eq t n then Some k else o) (was t) ∙ ap (λ i. if bytes_eq t n then Some i else number_in ns t) e ∙ sym (number_in-push ns n t none)
