-- The signals of declarations are those of first declarations, whatever numbers they have, where no parameter and no function has
-- a signal's name.
use Rattle.std.proofs.Common.{◌≡◌, ℕ, ◌+◌, ◌*◌, ◌<◌, Bool, true, false, true≢false, if◌then◌else◌, List, [], ◌∷◌, ◌++◌, length, Option, Some, None, refl, sym, ap, ◌∙◌, subst, arith}
use Rattle.std.specs.Prelude.{fold, flat_map, is_some, ◌==◌, ◌||◌, All}
use Rattle.std.specs.Str.{bytes_eq}
use Rattle.std.proofs.lemmas.Bool.Decides.{nat_tests}
use Rattle.std.proofs.lemmas.Slice.Eq.{bytes_eq-Decides}
use Rattle.std.proofs.lemmas.List.{length-append}
use Rattle.std.proofs.lemmas.List.Elements.{All-head, All-tail}
use Rattle.vl_flat.specs.vl_tree.specs.declared.tree.Identifier.{Identifier}
use Rattle.vl_flat.specs.vl_design.specs.declared.design.Signal.{Signal}
use Rattle.vl_flat.specs.declared.binding.Binding.{Binding}
use Rattle.vl_flat.specs.declared.binding.Binding.TheVariants as b
use Rattle.vl_flat.specs.declared.binding.Shape.{Shape}
use Rattle.vl_flat.specs.Items as t
use Rattle.vl_flat.specs.Scopes.{Env, bind, number_of}
use Rattle.vl_flat.specs.Kinds.{signals_in, signals_of, kind_of}
use Rattle.vl_flat.specs.Environments.{Counts, Given, Known, plus, item_counts, shape, with_signal, with_parameter, with_item}
use Rattle.vl_flat.specs.Processes.{Here, is_first, signal_of, signals}
use Rattle.vl_flat.specs.Flat as f
use Rattle.vl_sound.specs.Apart.{declared, IsApart}
use Rattle.vl_sound.proofs.Lists.{Each}
use Rattle.vl_sound.specs.Bare.{bare_of, bare_env}
use Rattle.vl_sound.proofs.NamesOfAlike.{SameNames}
use Rattle.vl_flat.specs.vl_base.proofs.Numbers.{equal_self as number-same, less_unequal as number-unlike}
use Rattle.vl_flat.specs.vl_base.proofs.Lists.{bytes_eq_self as text-same}

some-is : (y z : Binding) → ◌≡◌ {A = Option Binding} (Some y) (Some z) → y ≡ z
some-is y z e = cc

-- ---- the signals of first declarations

pub firsts : Env → List ℕ → (List ℕ → Bool) → List t.Declared → List Signal
firsts env path known [] = []
firsts env path known (d ∷ ds) =
    if known d.name.name then firsts env path known ds
    else signal_of path d.name (env d.name.name) ++ firsts env path (λ u. bytes_eq d.name.name u || known u) ds

signal-kept : (path : List ℕ) (n : Identifier) (o : Option Binding) → signal_of path n (bare_of o) ≡ signal_of path n o
signal-kept path n None = refl
signal-kept path n (Some (b.Constant c)) = refl
signal-kept path n (Some (b.Signal k s)) = refl
signal-kept path n (Some (b.Function k c)) = refl

pub firsts-kept : (path : List ℕ) (known : List ℕ → Bool) (ds : List t.Declared) (env : Env) → firsts (bare_env env) path known ds ≡ firsts env path known ds
unfolding firsts
firsts-kept path known [] env = refl
firsts-kept path known (d ∷ ds) env =
    λ i. if known d.name.name then firsts-kept path known ds env i
    else signal-kept path d.name (env d.name.name) i ++ firsts-kept path (λ u. bytes_eq d.name.name u || known u) ds env i

module _ (sizes : List ℕ → Counts) (g : Given) (m : t.Module) where
  abbrev pub Inside : List ℕ → Type 0
  Inside n = declared (signals_of m) n ≡ true

  -- the numbers of signals so far are below the next one
  abbrev pub Below : Known → Type 0
  Below k = (n : List ℕ) → Inside n → (y : Binding) → k.env n ≡ Some y → number_of (Some y) < k.next.signals

  -- ---- one declaration

  more : Known → t.Declared → Known
  more k d =
      let n = d.name.name in
      record { env = bind k.env n (b.Signal k.next.signals (shape k.env (kind_of m (g.clocks n) (g.wired n) n) d)); next = plus k.next (record { signals = 1; functions = 0 }) }

  is-known : (k : Known) (d : t.Declared) (y : Binding) → k.env d.name.name ≡ Some y → with_signal g m k d ≡ k
  unfolding more
  is-known k d y e = ap (λ (o : Option Binding). if is_some o then k else more k d) e

  is-new : (k : Known) (d : t.Declared) → k.env d.name.name ≡ None → with_signal g m k d ≡ more k d
  unfolding more
  is-new k d e = ap (λ (o : Option Binding). if is_some o then k else more k d) e

  bound-elsewhere : (env : Env) (name n : List ℕ) (y : Binding) → bytes_eq name n ≡ false → bind env name y n ≡ env n
  bound-elsewhere env name n y e = ap (λ (c : Bool). if c then Some y else env n) e

  -- what is known stays known
  stays : (k : Known) (d : t.Declared) (n : List ℕ) (y : Binding) → k.env n ≡ Some y → (with_signal g m k d).env n ≡ Some y
  unfolding more
  stays k d n y e = by (k.env d.name.name) refl
    where
      at-name : (c : Bool) → bytes_eq d.name.name n ≡ c → k.env d.name.name ≡ None → (more k d).env n ≡ Some y
      at-name true h w = let same : d.name.name ≡ n = (bytes_eq-Decides d.name.name n).0 h in let z : ◌≡◌ {A = Option Binding} None (Some y) = sym w ∙ (ap k.env same ∙ e) in absurd cc
      at-name false h w = bound-elsewhere k.env d.name.name n _ h ∙ e

      by : (o : Option Binding) → k.env d.name.name ≡ o → (with_signal g m k d).env n ≡ Some y
      by (Some z) h = ap (λ (q : Known). q.env n) (is-known k d z h) ∙ e
      by None h = ap (λ (q : Known). q.env n) (is-new k d h) ∙ at-name (bytes_eq d.name.name n) refl h

  all-stay : (ds : List t.Declared) (k : Known) (n : List ℕ) (y : Binding) → k.env n ≡ Some y → (fold (with_signal g m) k ds).env n ≡ Some y
  all-stay [] k n y e = e
  all-stay (d ∷ ds) k n y e = all-stay ds (with_signal g m k d) n y (stays k d n y e)

  new-below : (k : Known) (d : t.Declared) → Below k → Below (more k d)
  unfolding more
  new-below k d h = λ n inside y e. by n inside y (bytes_eq d.name.name n) e
    where
      by : (n : List ℕ) → Inside n → (y : Binding) (c : Bool)
          → (if c then Some (b.Signal k.next.signals (shape k.env (kind_of m (g.clocks d.name.name) (g.wired d.name.name) d.name.name) d)) else k.env n) ≡ Some y
          → number_of (Some y) < k.next.signals + 1
      by n inside y true e = let is = ap number_of e in omega (arith, is)
      by n inside y false e = let lt = h n inside y e in omega (arith, lt)

  -- ---- declarations one by one, where the names of the whole are these

  module _ (env : Env) (behind : ℕ) where
    abbrev pub here : Here
    here = record { env = env; path = g.path; behind = behind }

    -- what the names of these declarations stand for, they stand for in the end
    abbrev pub Lasts : Known → Type 0
    Lasts k = (n : List ℕ) → Inside n → (y : Binding) → k.env n ≡ Some y → env n ≡ Some y

    pub record Run (k : Known) (ds : List t.Declared) : Type 0 where
      pub is : signals here k.next.signals ds ≡ firsts env g.path (λ n. is_some (k.env n)) ds
      pub next : (fold (with_signal g m) k ds).next.signals ≡ k.next.signals + length (signals here k.next.signals ds)
      pub below : Below (fold (with_signal g m) k ds)

    known-run : (k : Known) (d : t.Declared) (ds : List t.Declared) (y : Binding) → Inside d.name.name → Below k → env d.name.name ≡ Some y → k.env d.name.name ≡ Some y
        → Run k ds → Run k (d ∷ ds)
    unfolding firsts
    known-run k d ds y inside below w e rest =
        let first : is_first env k.next.signals d ≡ false = ap (λ (z : Option Binding). number_of z == k.next.signals) w ∙ number-unlike (number_of (Some y)) k.next.signals (below d.name.name inside y e) in
        let same : with_signal g m k d ≡ k = is-known k d y e in
        let emits : signals here k.next.signals (d ∷ ds) ≡ signals here k.next.signals ds =
        ap (λ (c : Bool). if c then signal_of g.path d.name (env d.name.name) ++ signals here (k.next.signals + 1) ds else signals here k.next.signals ds) first in
        let known : firsts env g.path (λ n. is_some (k.env n)) (d ∷ ds) ≡ firsts env g.path (λ n. is_some (k.env n)) ds =
        ap (λ (o : Option Binding). if is_some o then firsts env g.path (λ n. is_some (k.env n)) ds
        else signal_of g.path d.name (env d.name.name) ++ firsts env g.path (λ u. bytes_eq d.name.name u || is_some (k.env u)) ds) e in
        record {
          is = emits ∙ (rest.is ∙ sym known);
          next = ap (λ (z : Known). (fold (with_signal g m) z ds).next.signals) same ∙ (rest.next ∙ ap (λ z. k.next.signals + length z) (sym emits));
          below = subst (λ (z : Known). Below (fold (with_signal g m) z ds)) (sym same) rest.below;
        }

    new-run : (k : Known) (d : t.Declared) (ds : List t.Declared) → k.env d.name.name ≡ None → env d.name.name ≡ (more k d).env d.name.name
        → Run (more k d) ds → Run k (d ∷ ds)
    unfolding firsts more
    new-run k d ds e w rest =
        let n = d.name.name in
        let s = shape k.env (kind_of m (g.clocks n) (g.wired n) n) d in
        let r = signal_of g.path d.name (env n) in
        let is : env n ≡ Some (b.Signal k.next.signals s) = w ∙ ap (λ (c : Bool). if c then Some (b.Signal k.next.signals s) else k.env n) (text-same n) in
        let first : is_first env k.next.signals d ≡ true = ap (λ (z : Option Binding). number_of z == k.next.signals) is ∙ number-same k.next.signals in
        let new : with_signal g m k d ≡ more k d = is-new k d e in
        let emits : signals here k.next.signals (d ∷ ds) ≡ r ++ signals here (k.next.signals + 1) ds =
        ap (λ (c : Bool). if c then r ++ signals here (k.next.signals + 1) ds else signals here k.next.signals ds) first in
        let names : (λ u. is_some ((more k d).env u)) ≡ (λ u. bytes_eq n u || is_some (k.env u)) = λ i u. seen s u (bytes_eq n u) i in
        let known : firsts env g.path (λ u. is_some (k.env u)) (d ∷ ds) ≡ r ++ firsts env g.path (λ u. bytes_eq n u || is_some (k.env u)) ds =
        ap (λ (o : Option Binding). if is_some o then firsts env g.path (λ u. is_some (k.env u)) ds else r ++ firsts env g.path (λ u. bytes_eq n u || is_some (k.env u)) ds) e in
        let one : length r ≡ 1 = ap (λ (o : Option Binding). length (signal_of g.path d.name o)) is in
        record {
          is = emits ∙ (ap (λ z. r ++ z) (rest.is ∙ ap (λ z. firsts env g.path z ds) names) ∙ sym known);
          next = let all = ap (λ (z : Known). (fold (with_signal g m) z ds).next.signals) new in
              let many = ap (length {A = Signal}) emits in
              omega (arith, all, many, rest.next, one, length-append r (signals here (k.next.signals + 1) ds));
          below = subst (λ (z : Known). Below (fold (with_signal g m) z ds)) (sym new) rest.below;
        }
      where
        seen : (s : Shape) (u : List ℕ) (c : Bool) → is_some (if c then Some (b.Signal k.next.signals s) else k.env u) ≡ (c || is_some (k.env u))
        seen s u true = refl
        seen s u false = refl

    pub run : (ds : List t.Declared) (k : Known) → Each (λ (d : t.Declared). Inside d.name.name) ds → Below k → Lasts (fold (with_signal g m) k ds) → Run k ds
    unfolding Each firsts more
    run [] k inside below lasts = record { is = refl; next = omega arith; below = below }
    run (d ∷ ds) k inside below lasts = by (λ j low last. run ds j inside.1 low last) (k.env d.name.name) refl
      where
        by : ((j : Known) → Below j → Lasts (fold (with_signal g m) j ds) → Run j ds) → (o : Option Binding) → k.env d.name.name ≡ o → Run k (d ∷ ds)
        by rest (Some y) e =
            known-run k d ds y inside.0 below (lasts d.name.name inside.0 y (all-stay ds (with_signal g m k d) d.name.name y (stays k d d.name.name y e))) e
            (rest k below (subst (λ (z : Known). Lasts (fold (with_signal g m) z ds)) (is-known k d y e) lasts))
        by rest None e =
            let bound : (more k d).env d.name.name ≡ Some (b.Signal k.next.signals (shape k.env (kind_of m (g.clocks d.name.name) (g.wired d.name.name) d.name.name) d)) =
            ap (λ (c : Bool). if c then Some (b.Signal k.next.signals (shape k.env (kind_of m (g.clocks d.name.name) (g.wired d.name.name) d.name.name) d)) else k.env d.name.name) (text-same d.name.name) in
            let new = is-new k d e in
            let last = subst (λ (z : Known). Lasts (fold (with_signal g m) z ds)) new lasts in
            new-run k d ds e (last d.name.name inside.0 _ (all-stay ds (more k d) d.name.name _ bound) ∙ sym bound)
            (rest (more k d) (new-below k d below) last)

    -- ---- items

    -- a name of no signal is another one
    apart-text : (name n : List ℕ) → declared (signals_of m) name ≡ false → Inside n → bytes_eq name n ≡ false
    apart-text name n out inner = by (bytes_eq name n) refl
      where
        by : (c : Bool) → bytes_eq name n ≡ c → c ≡ false
        by false e = refl
        by true e = absurd (true≢false (sym inner ∙ (ap (declared (signals_of m)) (sym ((bytes_eq-Decides name n).0 e)) ∙ out)))

    params-next : (type : t.DataType) (ps : List t.Parameter) (k : Known) → (fold (with_parameter g type) k ps).next ≡ k.next
    params-next type [] k = refl
    params-next type (a ∷ ps) k = params-next type ps (with_parameter g type k a)

    params-env : (type : t.DataType) (ps : List t.Parameter) (k : Known) → All (λ (a : t.Parameter). declared (signals_of m) a.name.name ≡ false) ps → (n : List ℕ) → Inside n
        → (fold (with_parameter g type) k ps).env n ≡ k.env n
    params-env type [] k h n inside = refl
    params-env type (a ∷ ps) k h n inside =
        params-env type ps (with_parameter g type k a) (All-tail (λ (q : t.Parameter). declared (signals_of m) q.name.name ≡ false) a ps h) n inside
        ∙ bound-elsewhere k.env a.name.name n _ (apart-text a.name.name n (All-head (λ (q : t.Parameter). declared (signals_of m) q.name.name ≡ false) a ps h) inside)

    below-same : (k j : Known) → Below k → j.next.signals ≡ k.next.signals → ((n : List ℕ) → Inside n → j.env n ≡ k.env n) → Below j
    below-same k j h same names = λ n inside y e. let lt = h n inside y (sym (names n inside) ∙ e) in omega (arith, lt, same)

    item-stays : (k : Known) (item : t.Item) → IsApart (signals_of m) item → (n : List ℕ) → Inside n → (y : Binding) → k.env n ≡ Some y → (with_item sizes g m k item).env n ≡ Some y
    item-stays k (t.Parameters type ps) apart n inside y e = params-env type ps k apart n inside ∙ e
    item-stays k (t.Signals ds) apart n inside y e = all-stay ds k n y e
    item-stays k (t.Functions a) apart n inside y e = bound-elsewhere k.env a.name.name n _ (apart-text a.name.name n apart inside) ∙ e
    item-stays k (t.Assigns as') apart n inside y e = e
    item-stays k (t.Initial at a) apart n inside y e = e
    item-stays k (t.Always at trigger a) apart n inside y e = e
    item-stays k (t.Instantiates us) apart n inside y e = e

    pub items-stay : (items : List t.Item) (k : Known) → Each (IsApart (signals_of m)) items → (n : List ℕ) → Inside n → (y : Binding) → k.env n ≡ Some y → (fold (with_item sizes g m) k items).env n ≡ Some y
    unfolding Each
    items-stay [] k apart n inside y e = e
    items-stay (item ∷ items) k apart n inside y e = items-stay items (with_item sizes g m k item) apart.1 n inside y (item-stays k item apart.0 n inside y e)

    -- what an item adds
    pub record One (k : Known) (next : Counts) (item : t.Item) : Type 0 where
      pub is : signals here next.signals (signals_in item) ≡ firsts env g.path (λ n. is_some (k.env n)) (signals_in item)
      pub next-is : (f.behind_item sizes here next item).signals ≡ (with_item sizes g m k item).next.signals
      pub below : Below (with_item sizes g m k item)

    pub one-item : (item : t.Item) (k : Known) (next : Counts) → next.signals ≡ k.next.signals → IsApart (signals_of m) item
        → Each (λ (d : t.Declared). Inside d.name.name) (signals_in item) → Below k → Lasts (with_item sizes g m k item) → One k next item
    unfolding firsts
    one-item (t.Parameters type ps) k next same apart inside below lasts =
        let is = ap (λ (c : Counts). c.signals) (params-next type ps k) in
        record { is = refl; next-is = omega (arith, same, is); below = below-same k (fold (with_parameter g type) k ps) below is (params-env type ps k apart) }
    one-item (t.Functions a) k next same apart inside below lasts = record {
      is = refl;
      next-is = omega (arith, same);
      below = below-same k (with_item sizes g m k (t.Functions a)) below (omega arith) (λ n within. bound-elsewhere k.env a.name.name n _ (apart-text a.name.name n apart within));
    }
    one-item (t.Signals ds) k next same apart inside below lasts =
        let all = run ds k inside below lasts in
        record {
          is = ap (λ n. signals here n ds) same ∙ all.is;
          next-is = omega (arith, same, all.next, ap (λ n. length (signals here n ds)) same);
          below = all.below;
        }
    one-item (t.Assigns as') k next same apart inside below lasts =
        record { is = refl; next-is = omega (arith, same); below = below-same k (with_item sizes g m k (t.Assigns as')) below (omega arith) (λ n within. refl) }
    one-item (t.Initial at a) k next same apart inside below lasts =
        record { is = refl; next-is = omega (arith, same); below = below-same k (with_item sizes g m k (t.Initial at a)) below (omega arith) (λ n within. refl) }
    one-item (t.Always at trigger a) k next same apart inside below lasts =
        record { is = refl; next-is = omega (arith, same); below = below-same k (with_item sizes g m k (t.Always at trigger a)) below (omega arith) (λ n within. refl) }
    one-item (t.Instantiates us) k next same apart inside below lasts =
        record {
          is = refl;
          next-is = omega (arith, same);
          below = λ n within y e. let lt = below n within y e in omega (arith, lt);
        }
