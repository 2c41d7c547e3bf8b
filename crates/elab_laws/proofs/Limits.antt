-- Where no limit is passed, the signals are within the limits.
use Rattle.std.proofs.Common.{◌≡◌, ℕ, ◌+◌, ◌≤◌, Bool, true, false, true≢false, cond, ◌&&◌, ◌||◌, nat_lt, List, [], ◌∷◌, ◌++◌, length, Option, Some, None, Result, Ok, Err, refl, sym, subst, arith}
use Rattle.std.specs.Prelude.{flat_map}
use Rattle.std.specs.List.{AllByRecursion}
use Rattle.std.proofs.lemmas.Bool.{ltb-false, or_parts}
use Rattle.std.proofs.lemmas.List.Elements.{All-from_recursion}
use Rattle.vl_sound.specs.vl_base.specs.declared.place.Place.{Place}
use Rattle.vl_sound.specs.vl_tree.specs.declared.source_tree.Source.{Source}
use Rattle.ten_plan.specs.vl_design.specs.declared.design.Signal.{Signal}
use Rattle.ten_plan.specs.vl_design.specs.declared.stop.Stop.{Stop}
use Rattle.ten_plan.specs.vl_design.specs.Placed as p
use Rattle.ten_plan.specs.vl_design.specs.Rows.{word_count}
use Rattle.ten_plan.specs.vl_design.specs.Stops.{limit_if, is_before, earliest}
use Rattle.vl_sound.specs.vl_flat.specs.Items.{Module}
use Rattle.vl_sound.specs.vl_flat.specs.Expressions.{is_mem}
use Rattle.vl_sound.specs.vl_flat.specs.Declarations.{modules}
use Rattle.vl_sound.specs.vl_flat.specs.Flat.{Part, is_long_path, parts_from, design_of, top_of}
use Rattle.vl_sound.specs.vl_flat.specs.Outcome.{Totals, is_counted, memory_words, with_signal, with_part, signal_limits, signals_limits, instance_limits, part_stop, passed, judged, nothing_yet, flattened_by, flattened, ◌>>=◌}
use Rattle.elab_laws.specs.Limited.{counted, IsLimited}
use Rattle.elab_laws.proofs.Counted.{Within, within-append, signals-behind, words-behind, part-signals, part-words}

-- ---- no fault

some-earliest : (xs : List Stop) (e : Stop) → earliest (Some e) xs ≡ None → ⊥
some-earliest [] e h = cc
some-earliest (y ∷ xs) e h = by (is_before y e) (some-earliest xs) h
  where
    by : (c : Bool) → ((z : Stop) → earliest (Some z) xs ≡ None → ⊥) → earliest (cond c (Some y) (Some e)) xs ≡ None → ⊥
    by true f h = f y h
    by false f h = f e h

none-earliest : (xs : List Stop) → earliest None xs ≡ None → xs ≡ []
none-earliest [] h = refl
none-earliest (y ∷ xs) h = absurd (some-earliest xs y h)

left-empty : {A : Type 0} (xs ys : List A) → xs ++ ys ≡ [] → xs ≡ []
left-empty [] ys h = refl
left-empty (x ∷ xs) ys h = absurd cc

right-empty : {A : Type 0} (xs ys : List A) → xs ++ ys ≡ [] → ys ≡ []
right-empty [] ys h = h
right-empty (x ∷ xs) ys h = absurd cc

not-passed : (c : Bool) (at : Place) (n : ℕ) → limit_if c at n ≡ [] → c ≡ false
not-passed true at n h = absurd cc
not-passed false at n h = refl

-- ---- one signal

second-false : (a b : Bool) → a ≡ true → (a && b) ≡ false → b ≡ false
second-false true b h k = k
second-false false b h k = absurd (true≢false (sym h))

few-signals : (c : Bool) (n : ℕ) → n ≤ 16384 → (c && nat_lt 16384 (cond c (n + 1) n)) ≡ false → cond c (n + 1) n ≤ 16384
few-signals true n h k = ltb-false 16384 (n + 1) k
few-signals false n h k = h

few-words : (c : Bool) (n w : ℕ) → n ≤ 262144 → (c && nat_lt 262144 (n + cond c w 0)) ≡ false → n + cond c w 0 ≤ 262144
few-words true n w h k = ltb-false 262144 (n + w) k
few-words false n w h k = omega arith

name-alone : (c : Bool) (r : Signal) → (c ≡ true → length r.name ≤ 255) → AllByRecursion (λ (x : Signal). length x.name ≤ 255) (cond c (r ∷ []) [])
name-alone true r h = (h refl, tt)
name-alone false r h = tt

short : (path : List ℕ) → is_long_path path ≡ false → length path ≤ 255
short path h = ltb-false 255 (length path) h

-- the totals are within their limits
record Few (n : Totals) : Type 0 where
  signals : n.signals ≤ 16384
  words : n.words ≤ 262144

module _ (n : Totals) (r : Signal) (few : Few n) (clear : signal_limits (with_signal n r) r ≡ []) where
  abbrev more : Totals
  more = with_signal n r

  abbrev many : Bool
  many = is_counted r.kind && nat_lt 16384 more.signals

  abbrev large : Bool
  large = nat_lt 65536 (memory_words r) || (is_mem r.kind && nat_lt 262144 more.words)

  abbrev long : Bool
  long = is_counted r.kind && is_long_path r.name

  others : limit_if large r.place 7 ++ limit_if long r.place 11 ≡ []
  others = right-empty (limit_if many r.place 6) (limit_if large r.place 7 ++ limit_if long r.place 11) clear

  few-signal : Few (with_signal n r)
  few-signal = record {
    signals = few-signals (is_counted r.kind) n.signals few.signals (not-passed many r.place 6 (left-empty (limit_if many r.place 6) (limit_if large r.place 7 ++ limit_if long r.place 11) clear));
    words = few-words (is_mem r.kind) n.words (word_count r.kind r.first r.last) few.words
        (or_parts (nat_lt 65536 (memory_words r)) (is_mem r.kind && nat_lt 262144 more.words) (not-passed large r.place 7 (left-empty (limit_if large r.place 7) (limit_if long r.place 11) others))).1;
  }

  signal-within : Within n (r ∷ [])
  signal-within = record {
    names = name-alone (is_counted r.kind) r
        (λ c. short r.name (second-false (is_counted r.kind) (is_long_path r.name) c (not-passed long r.place 11 (right-empty (limit_if large r.place 7) (limit_if long r.place 11) others))));
    signals = subst (λ k. k ≤ 16384) (signals-behind n (r ∷ [])) few-signal.signals;
    words = (
      ltb-false 65536 (memory_words r)
          (or_parts (nat_lt 65536 (memory_words r)) (is_mem r.kind && nat_lt 262144 more.words) (not-passed large r.place 7 (left-empty (limit_if large r.place 7) (limit_if long r.place 11) others))).0,
      tt,
    );
    all_words = subst (λ k. k ≤ 262144) (words-behind n (r ∷ [])) few-signal.words;
  }

-- ---- signals, and parts

none-within : (n : Totals) → Few n → Within n []
none-within n few = record { names = tt; signals = omega (arith, few.signals); words = tt; all_words = omega (arith, few.words) }

signals-within : (n : Totals) (rs : List Signal) → Few n → signals_limits n rs ≡ [] → Within n rs
signals-within n [] few h = none-within n few
signals-within n (r ∷ rs) few h =
    let more = with_signal n r in
    let here = left-empty (signal_limits more r) (signals_limits more rs) h in
    within-append n more (r ∷ []) rs (signals-behind n (r ∷ [])) (words-behind n (r ∷ [])) (signal-within n r few here)
    (signals-within more rs (few-signal n r few here) (right-empty (signal_limits more r) (signals_limits more rs) h))

few-part : (n : Totals) (a : Part) → Within n a.signals → Few (with_part n a)
few-part n a h = record {
  signals = subst (λ k. k ≤ 16384) (sym (part-signals n a)) h.signals;
  words = subst (λ k. k ≤ 262144) (sym (part-words n a)) h.all_words;
}

part-within : (n : Totals) (a : Part) → Few n → part_stop n a ≡ None → Within n a.signals
part-within n a few is =
    let clear = none-earliest (instance_limits n a.begins ++ (signals_limits n a.signals ++ a.faults)) is in
    signals-within n a.signals few (left-empty (signals_limits n a.signals) a.faults (right-empty (instance_limits n a.begins) (signals_limits n a.signals ++ a.faults) clear))

abbrev all-signals : List Part → List Signal
all-signals parts = flat_map (λ a. a.signals) parts

parts-within : (n t : Totals) (parts : List Part) → Few n → judged n parts ≡ Ok t → Within n (all-signals parts)
parts-within n t [] few h = none-within n few
parts-within n t (a ∷ parts) few h = by (part_stop n a) refl (parts-within (with_part n a) t parts) h
  where
    by : (s : Option Stop) → part_stop n a ≡ s → (Few (with_part n a) → judged (with_part n a) parts ≡ Ok t → Within (with_part n a) (all-signals parts))
        → (passed (with_part n a) s >>= λ k. judged k parts) ≡ Ok t → Within n (all-signals (a ∷ parts))
    by None is rest e =
        let here = part-within n a few is in
        within-append n (with_part n a) a.signals (all-signals parts) (part-signals n a) (part-words n a) here (rest (few-part n a here) e)
    by (Some s) is rest e = absurd cc

-- ---- designs

of-parts : (m : Module) (parts : List Part) (d : p.Design) (r : Result Totals Stop) → judged nothing_yet parts ≡ r → (r >>= λ n. Ok (design_of m parts)) ≡ Ok d → IsLimited d
of-parts m parts d (Err s) is e = absurd cc
of-parts m parts d (Ok t) is e =
    let within = parts-within nothing_yet t parts (record { signals = omega arith; words = omega arith }) is in
    let limited : IsLimited (design_of m parts) = record {
      names = All-from_recursion (λ (r : Signal). length r.name ≤ 255) (counted (all-signals parts)) within.names;
      signals = omega (arith, within.signals);
      words = All-from_recursion (λ r. memory_words r ≤ 65536) (all-signals parts) within.words;
      all_words = omega (arith, within.all_words);
    } in
    subst IsLimited (design-is (design_of m parts) d e) limited
  where
    design-is : (a b : p.Design) → ◌≡◌ {A = Result p.Design Stop} (Ok a) (Ok b) → a ≡ b
    design-is a b e = cc

from-top : (ms : List Module) (top : Option Module) (d : p.Design) → flattened_by ms top ≡ Ok d → IsLimited d
from-top ms None d e = absurd cc
from-top ms (Some m) d e = of-parts m (parts_from ms m) d (judged nothing_yet (parts_from ms m)) refl e

pub flat-limited : (s : Source) (d : p.Design) → flattened s ≡ Ok d → IsLimited d
flat-limited s d e = from-top (modules s) (top_of s) d e
