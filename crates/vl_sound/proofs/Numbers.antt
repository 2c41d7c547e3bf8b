-- An instance has as many signals as its size says, and the number of a name is the place of its signal.
use Rattle.std.proofs.Common.{◌≡◌, ℕ, zero, suc, ◌+◌, ◌*◌, ◌<◌, Bool, true, false, true≢false, if◌then◌else◌, List, [], ◌∷◌, ◌++◌, length, Option, Some, None, Result, Ok, Err, refl, sym, ap, ◌∙◌, subst, arith}
use Rattle.std.specs.Prelude.{slice_get, fold, flat_map, is_some, ◌==◌, ◌||◌, All}
use Rattle.std.specs.List.{list_any}
use Rattle.std.specs.Option.{option_map_or}
use Rattle.std.specs.Str.{bytes_eq}
use Rattle.std.proofs.lemmas.Bool.Decides.{nat_tests}
use Rattle.std.proofs.lemmas.Slice.Eq.{bytes_eq-Decides}
use Rattle.std.proofs.lemmas.Grind.{flat_map-append}
use Rattle.std.proofs.lemmas.List.{append_assoc, append-nil, length-append}
use Rattle.std.proofs.lemmas.List.Elements.{All-head, All-tail}
use Rattle.std.proofs.lemmas.Option.{slice_get_within}
use Rattle.std.proofs.Math.Nat.{suc-mul}
use Rattle.vl_flat.specs.vl_tree.specs.declared.tree.Identifier.{Identifier}
use Rattle.vl_flat.specs.vl_design.specs.declared.design.Signal.{Signal}
use Rattle.vl_flat.specs.declared.binding.Binding.{Binding}
use Rattle.vl_flat.specs.declared.binding.Binding.TheVariants as b
use Rattle.vl_flat.specs.declared.binding.Shape.{Shape}
use Rattle.vl_flat.specs.Scopes.{Env, none, bind, number_of}
use Rattle.vl_flat.specs.Items as x
use Rattle.vl_flat.specs.Kinds.{signals_in, signals_of, kind_of}
use Rattle.vl_flat.specs.Environments.{Counts, Given, Known, plus, no_more, new_ones, item_counts, module_counts, module_named, size, environment, shape, with_signal, with_parameter, with_item}
use Rattle.vl_flat.specs.Functions.{signal}
use Rattle.vl_flat.specs.Processes.{Here, is_first, signal_of, signals}
use Rattle.vl_flat.specs.Connections.{given}
use Rattle.vl_flat.specs.Flat.{instance}
use Rattle.vl_flat.specs.Flat as f
use Rattle.vl_flat.specs.vl_design.specs.declared.stop.Stop.{Stop}
use Rattle.vl_flat.specs.vl_design.specs.Placed as p
use Rattle.vl_flat.specs.Outcome as o
use Rattle.vl_flat.specs.Outcome.{◌>>=◌}
use Rattle.vl_sound.proofs.Lists.{left-part, seam-part, Each, each-from, found-holds}
use Rattle.vl_sound.proofs.Splits.{body-only}
use Rattle.vl_sound.specs.Apart.{declared, IsApart, AreApart}
use Rattle.vl_flat.specs.vl_base.proofs.Numbers.{equal_self as number-same, less_unequal as number-unlike}
use Rattle.vl_flat.specs.vl_base.proofs.Booleans.{or_true_right as or-true}
use Rattle.vl_flat.specs.vl_base.proofs.Lists.{bytes_eq_self as text-same, bytes_eq_from as same-text, bytes_eq_comm as text-turned}

-- ---- texts and lists

-- ---- what names are known

-- the names known behind declarations
pub seen : List (List ℕ) → List x.Declared → List (List ℕ)
seen known [] = known
seen known (d ∷ ds) = if list_any (bytes_eq d.name.name) known then seen known ds else seen (d.name.name ∷ known) ds

-- how many names items declare that weren't known
unfoldable pub news : List (List ℕ) → List x.Item → ℕ
news known [] = 0
news known (item ∷ items) = length (new_ones known (signals_in item)) + news (seen known (signals_in item)) items

abbrev pub sigs : List f.Part → List Signal
sigs parts = flat_map (λ a. a.signals) parts

module _ (sizes : List ℕ → Counts) (g : Given) (m : x.Module) where
  abbrev pub Inside : List ℕ → Type 0
  Inside t = declared (signals_of m) t ≡ true

  -- the signal of a number has its place behind the first one's
  pub record Where (o : ℕ) (xs : List Signal) (t : List ℕ) (n : ℕ) (s : Shape) : Type 0 where
    pub i : ℕ
    pub is : n ≡ o + i
    pub name : Identifier
    pub spelt : name.name ≡ t
    pub there : slice_get xs i ≡ Some (signal g.path name s)

  where-more : (o : ℕ) (xs ys : List Signal) (t : List ℕ) (n : ℕ) (s : Shape) → Where o xs t n s → Where o (xs ++ ys) t n s
  where-more o xs ys t n s h = record { i = h.i; is = h.is; name = h.name; spelt = h.spelt; there = left-part xs ys h.i _ h.there }

  abbrev pub IsSignalBinding : Binding → Type 0
  IsSignalBinding (b.Signal n s) = Unit {0}
  IsSignalBinding y = ⊥

  -- the names so far stand where their numbers say, among the signals so far
  pub record At (o : ℕ) (known : List (List ℕ)) (k : Known) (xs : List Signal) : Type 0 where
    pub len : k.next.signals ≡ o + length xs
    pub at : (t : List ℕ) (n : ℕ) (s : Shape) → k.env t ≡ Some (b.Signal n s) → Where o xs t n s
    pub only : (t : List ℕ) → Inside t → (y : Binding) → k.env t ≡ Some y → IsSignalBinding y
    pub names : (t : List ℕ) → Inside t → list_any (bytes_eq t) known ≡ is_some (k.env t)

  -- ---- one declaration

  more : Known → x.Declared → Known
  more k d =
      let t = d.name.name in
      record { env = bind k.env t (b.Signal k.next.signals (shape k.env (kind_of m (g.clocks t) (g.wired t) t) d)); next = plus k.next (record { signals = 1; functions = 0 }) }

  is-known : (k : Known) (d : x.Declared) (y : Binding) → k.env d.name.name ≡ Some y → with_signal g m k d ≡ k
  unfolding more
  is-known k d y e = ap (λ (o : Option Binding). if is_some o then k else more k d) e

  is-new : (k : Known) (d : x.Declared) → k.env d.name.name ≡ None → with_signal g m k d ≡ more k d
  unfolding more
  is-new k d e = ap (λ (o : Option Binding). if is_some o then k else more k d) e

  bound-here : (env : Env) (t : List ℕ) (y : Binding) → bind env t y t ≡ Some y
  bound-here env t y = ap (λ (c : Bool). if c then Some y else env t) (text-same t)

  bound-elsewhere : (env : Env) (name t : List ℕ) (y : Binding) → bytes_eq name t ≡ false → bind env name y t ≡ env t
  bound-elsewhere env name t y e = ap (λ (c : Bool). if c then Some y else env t) e

  -- what is known stays known
  stays : (k : Known) (d : x.Declared) (t : List ℕ) (y : Binding) → k.env t ≡ Some y → (with_signal g m k d).env t ≡ Some y
  unfolding more
  stays k d t y e = by (k.env d.name.name) refl
    where
      at-name : (c : Bool) → bytes_eq d.name.name t ≡ c → k.env d.name.name ≡ None → (more k d).env t ≡ Some y
      at-name true h n = let same : d.name.name ≡ t = same-text d.name.name t h in let z : ◌≡◌ {A = Option Binding} None (Some y) = sym n ∙ (ap k.env same ∙ e) in absurd cc
      at-name false h n = bound-elsewhere k.env d.name.name t _ h ∙ e

      by : (o : Option Binding) → k.env d.name.name ≡ o → (with_signal g m k d).env t ≡ Some y
      by (Some z) h = ap (λ (q : Known). q.env t) (is-known k d z h) ∙ e
      by None h = ap (λ (q : Known). q.env t) (is-new k d h) ∙ at-name (bytes_eq d.name.name t) refl h

  all-stay : (es : List x.Declared) (k : Known) (t : List ℕ) (y : Binding) → k.env t ≡ Some y → (fold (with_signal g m) k es).env t ≡ Some y
  all-stay [] k t y e = e
  all-stay (d ∷ es) k t y e = all-stay es (with_signal g m k d) t y (stays k d t y e)

  shape-of : Known → x.Declared → Shape
  shape-of k d = shape k.env (kind_of m (g.clocks d.name.name) (g.wired d.name.name) d.name.name) d

  signal-number : (n k : ℕ) (r s : Shape) → ◌≡◌ {A = Option Binding} (Some (b.Signal n r)) (Some (b.Signal k s)) → n ≡ k
  signal-number n k r s e = cc

  signal-shape : (n k : ℕ) (r s : Shape) → ◌≡◌ {A = Option Binding} (Some (b.Signal n r)) (Some (b.Signal k s)) → r ≡ s
  signal-shape n k r s e = cc

  binding-is : (n : ℕ) (r : Shape) (y : Binding) → ◌≡◌ {A = Option Binding} (Some (b.Signal n r)) (Some y) → IsSignalBinding y
  binding-is n r (b.Signal k s) e = tt
  binding-is n r (b.Constant c) e = absurd cc
  binding-is n r (b.Function k c) e = absurd cc

  -- a new name stands at the end
  new-at : (o : ℕ) (xs : List Signal) (known : List (List ℕ)) (k : Known) (d : x.Declared) → At o known k xs
      → At o (d.name.name ∷ known) (more k d) (xs ++ signal g.path d.name (shape-of k d) ∷ [])
  unfolding more shape-of
  new-at o xs known k d h = record {
    len = omega (arith, h.len, length-append xs (signal g.path d.name (shape-of k d) ∷ []));
    at = λ u n s e. at u n s (bytes_eq d.name.name u) refl e;
    only = λ u i y e. only u i y (bytes_eq d.name.name u) e;
    names = λ u i. names u i (bytes_eq d.name.name u) refl;
  }
    where
      y' : Binding
      y' = b.Signal k.next.signals (shape-of k d)

      r' : Signal
      r' = signal g.path d.name (shape-of k d)

      at : (u : List ℕ) (n : ℕ) (s : Shape) (c : Bool) → bytes_eq d.name.name u ≡ c → (if c then Some y' else k.env u) ≡ Some (b.Signal n s) → Where o (xs ++ r' ∷ []) u n s
      at u n s true q e = record {
        i = length xs;
        is = sym (signal-number k.next.signals n (shape-of k d) s e) ∙ h.len;
        name = d.name;
        spelt = same-text d.name.name u q;
        there = seam-part xs r' ∙ ap (λ z. Some (signal g.path d.name z)) (signal-shape k.next.signals n (shape-of k d) s e);
      }
      at u n s false q e = where-more o xs (r' ∷ []) u n s (h.at u n s e)

      only : (u : List ℕ) → Inside u → (y : Binding) (c : Bool) → (if c then Some y' else k.env u) ≡ Some y → IsSignalBinding y
      only u i y true e = binding-is k.next.signals (shape-of k d) y e
      only u i y false e = h.only u i y e

      names : (u : List ℕ) → Inside u → (c : Bool) → bytes_eq d.name.name u ≡ c → (bytes_eq u d.name.name || list_any (bytes_eq u) known) ≡ is_some (if c then Some y' else k.env u)
      names u i true e = ap (λ z. z || list_any (bytes_eq u) known) (text-turned u d.name.name ∙ e)
      names u i false e = ap (λ z. z || list_any (bytes_eq u) known) (text-turned u d.name.name ∙ e) ∙ h.names u i

  -- ---- declarations one by one, where the names of the whole are these

  module _ (whole : Env) (behind : ℕ) where
    unfoldable pub here : Here
    here = record { env = whole; path = g.path; behind = behind }

    -- a declaration adds so many signals
    record Declares (o : ℕ) (known : List (List ℕ)) (k : Known) (xs : List Signal) (d : x.Declared) (rest : List x.Declared) : Type 0 where
      own : List Signal
      emits : signals here k.next.signals (d ∷ rest) ≡ own ++ signals here (with_signal g m k d).next.signals rest
      counts : length (new_ones known (d ∷ rest)) ≡ length own + length (new_ones (seen known (d ∷ [])) rest)
      goes : seen known (d ∷ rest) ≡ seen (seen known (d ∷ [])) rest
      stands : At o (seen known (d ∷ [])) (with_signal g m k d) (xs ++ own)

    other : (o : ℕ) (xs : List Signal) (known : List (List ℕ)) (k : Known) (d : x.Declared) (rest : List x.Declared) (y : Binding)
        → Inside d.name.name → At o known k xs → whole d.name.name ≡ Some y → k.env d.name.name ≡ Some y → Declares o known k xs d rest
    unfolding here seen
    other o xs known k d rest (b.Signal n s) inside h w e =
        let place = h.at d.name.name n s e in
        let lt : n < k.next.signals = omega (arith, place.is, h.len, slice_get_within xs place.i _ place.there) in
        let first : is_first whole k.next.signals d ≡ false = ap (λ (z : Option Binding). number_of z == k.next.signals) w ∙ number-unlike n k.next.signals lt in
        let same : with_signal g m k d ≡ k = is-known k d (b.Signal n s) e in
        let seen-it : list_any (bytes_eq d.name.name) known ≡ true = h.names d.name.name inside ∙ ap is_some e in
        let kept : seen known (d ∷ []) ≡ known = ap (λ (c : Bool). if c then known else d.name.name ∷ known) seen-it in
        record {
          own = [];
          emits =
              ap (λ (c : Bool). if c then signal_of g.path d.name (whole d.name.name) ++ signals here (k.next.signals + 1) rest else signals here k.next.signals rest) first
              ∙ ap (λ (q : Known). signals here q.next.signals rest) (sym same);
          counts = let e = ap (λ (c : Bool). length (if c then new_ones known rest else d ∷ new_ones (d.name.name ∷ known) rest)) seen-it ∙ ap (λ z. length (new_ones z rest)) (sym kept) in omega (arith, e);
          goes = ap (λ (c : Bool). if c then seen known rest else seen (d.name.name ∷ known) rest) seen-it ∙ ap (λ z. seen z rest) (sym kept);
          stands = subst (λ z. At o (seen known (d ∷ [])) (with_signal g m k d) z) (sym (append-nil xs))
              (subst (λ (q : Known). At o (seen known (d ∷ [])) q xs) (sym same) (subst (λ z. At o z k xs) (sym kept) h));
        }
    other o xs known k d rest (b.Constant c) inside h w e = absurd (h.only d.name.name inside (b.Constant c) e)
    other o xs known k d rest (b.Function n c) inside h w e = absurd (h.only d.name.name inside (b.Function n c) e)

    -- the first declaration of a name
    fresh : (o : ℕ) (xs : List Signal) (known : List (List ℕ)) (k : Known) (d : x.Declared) (rest : List x.Declared)
        → Inside d.name.name → At o known k xs → k.env d.name.name ≡ None → whole d.name.name ≡ (more k d).env d.name.name → Declares o known k xs d rest
    unfolding here seen more shape-of
    fresh o xs known k d rest inside h e w =
        let t = d.name.name in
        let n = k.next.signals in
        let s = shape-of k d in
        let r = signal g.path d.name s in
        let is : whole t ≡ Some (b.Signal n s) = w ∙ bound-here k.env t (b.Signal n s) in
        let first : is_first whole n d ≡ true = ap (λ (z : Option Binding). number_of z == n) is ∙ number-same n in
        let new : with_signal g m k d ≡ more k d = is-new k d e in
        let unseen : list_any (bytes_eq t) known ≡ false = h.names t inside ∙ ap is_some e in
        let grown : seen known (d ∷ []) ≡ t ∷ known = ap (λ (c : Bool). if c then known else t ∷ known) unseen in
        record {
          own = r ∷ [];
          emits =
              ap (λ (c : Bool). if c then signal_of g.path d.name (whole t) ++ signals here (n + 1) rest else signals here n rest) first
              ∙ (ap (λ (z : Option Binding). signal_of g.path d.name z ++ signals here (n + 1) rest) is
              ∙ ap (λ (q : Known). r ∷ signals here q.next.signals rest) (sym new));
          counts = let e = ap (λ (c : Bool). length (if c then new_ones known rest else d ∷ new_ones (t ∷ known) rest)) unseen ∙ ap (λ z. length (d ∷ new_ones z rest)) (sym grown) in omega (arith, e);
          goes = ap (λ (c : Bool). if c then seen known rest else seen (t ∷ known) rest) unseen ∙ ap (λ z. seen z rest) (sym grown);
          stands = subst (λ (q : Known). At o (seen known (d ∷ [])) q (xs ++ r ∷ [])) (sym new) (subst (λ z. At o z (more k d) (xs ++ r ∷ [])) (sym grown) (new-at o xs known k d h));
        }

    -- what the names of these declarations stand for, they stand for in the end
    abbrev pub Lasts : Known → Type 0
    Lasts k = (t : List ℕ) → Inside t → (y : Binding) → k.env t ≡ Some y → whole t ≡ Some y

    one-declared : (o : ℕ) (xs : List Signal) (known : List (List ℕ)) (k : Known) (d : x.Declared) (rest : List x.Declared)
        → Inside d.name.name → At o known k xs → Lasts (with_signal g m k d) → Declares o known k xs d rest
    unfolding more shape-of
    one-declared o xs known k d rest inside h lasts = by (k.env d.name.name) refl
      where
        t : List ℕ
        t = d.name.name

        y' : Binding
        y' = b.Signal k.next.signals (shape-of k d)

        by : (e : Option Binding) → k.env d.name.name ≡ e → Declares o known k xs d rest
        by (Some y) e = other o xs known k d rest y inside h (lasts t inside y (stays k d t y e)) e
        by None e =
            fresh o xs known k d rest inside h e
            (lasts t inside y' (ap (λ (q : Known). q.env t) (is-new k d e) ∙ bound-here k.env t y') ∙ sym (bound-here k.env t y'))

    record AllDeclared (o : ℕ) (xs : List Signal) (known : List (List ℕ)) (k : Known) (es : List x.Declared) : Type 0 where
      stands : At o (seen known es) (fold (with_signal g m) k es) (xs ++ signals here k.next.signals es)
      counts : length (signals here k.next.signals es) ≡ length (new_ones known es)

    all-declared : (es : List x.Declared) (o : ℕ) (xs : List Signal) (known : List (List ℕ)) (k : Known)
        → Each (λ d. Inside d.name.name) es → At o known k xs
        → Lasts (fold (with_signal g m) k es) → AllDeclared o xs known k es
    unfolding Each seen
    all-declared [] o xs known k i h lasts = record { stands = subst (λ z. At o known k z) (sym (append-nil xs)) h; counts = refl }
    all-declared (d ∷ es) o xs known k i h lasts =
        let w = with_signal g m k d in
        let now = one-declared o xs known k d es i.0 h (λ t j y e. lasts t j y (all-stay es w t y e)) in
        let rest = all-declared es o (xs ++ now.own) (seen known (d ∷ [])) w i.1 now.stands lasts in
        record {
          stands = subst (λ z. At o (seen known (d ∷ es)) (fold (with_signal g m) w es) (xs ++ z)) (sym now.emits)
              (subst (λ z. At o (seen known (d ∷ es)) (fold (with_signal g m) w es) z) (append_assoc xs now.own (signals here w.next.signals es))
              (subst (λ z. At o z (fold (with_signal g m) w es) ((xs ++ now.own) ++ signals here w.next.signals es)) (sym now.goes) rest.stands));
          counts = let e = ap (length {A = Signal}) now.emits in omega (arith, e, rest.counts, now.counts, length-append now.own (signals here w.next.signals es));
        }

    -- ---- items

    -- names and numbers that are the same
    at-same : (o : ℕ) (xs : List Signal) (known : List (List ℕ)) (k j : Known) → At o known k xs → j.next.signals ≡ k.next.signals
        → ((t : List ℕ) → Inside t → j.env t ≡ k.env t) → ((t : List ℕ) (n : ℕ) (s : Shape) → j.env t ≡ Some (b.Signal n s) → k.env t ≡ Some (b.Signal n s)) → At o known j xs
    at-same o xs known k j h same inside back = record {
      len = same ∙ h.len;
      at = λ t n s e. h.at t n s (back t n s e);
      only = λ t i y e. h.only t i y (sym (inside t i) ∙ e);
      names = λ t i. h.names t i ∙ ap is_some (sym (inside t i));
    }

    -- a name of no signal is another one
    apart-text : (name t : List ℕ) → declared (signals_of m) name ≡ false → Inside t → bytes_eq name t ≡ false
    apart-text name t out inner = by (bytes_eq name t) refl
      where
        by : (c : Bool) → bytes_eq name t ≡ c → c ≡ false
        by false e = refl
        by true e = absurd (true≢false (sym inner ∙ (ap (declared (signals_of m)) (sym (same-text name t e)) ∙ out)))

    back-of : (env : Env) (name : List ℕ) (y : Binding) (t : List ℕ) (n : ℕ) (s : Shape) → (y ≡ b.Signal n s → ⊥) → bind env name y t ≡ Some (b.Signal n s) → env t ≡ Some (b.Signal n s)
    back-of env name y t n s never e = by (bytes_eq name t) e
      where
        some_is : ◌≡◌ {A = Option Binding} (Some y) (Some (b.Signal n s)) → y ≡ b.Signal n s
        some_is q = cc

        by : (c : Bool) → (if c then Some y else env t) ≡ Some (b.Signal n s) → env t ≡ Some (b.Signal n s)
        by true q = absurd (never (some_is q))
        by false q = q

    params-next : (type : x.DataType) (ps : List x.Parameter) (k : Known) → (fold (with_parameter g type) k ps).next ≡ k.next
    params-next type [] k = refl
    params-next type (a ∷ ps) k = params-next type ps (with_parameter g type k a)

    params-env : (type : x.DataType) (ps : List x.Parameter) (k : Known) → All (λ a. declared (signals_of m) a.name.name ≡ false) ps → (t : List ℕ) → Inside t
        → (fold (with_parameter g type) k ps).env t ≡ k.env t
    params-env type [] k h t i = refl
    params-env type (a ∷ ps) k h t i =
        params-env type ps (with_parameter g type k a) (All-tail (λ q. declared (signals_of m) q.name.name ≡ false) a ps h) t i ∙ bound-elsewhere k.env a.name.name t _ (apart-text a.name.name t (All-head (λ q. declared (signals_of m) q.name.name ≡ false) a ps h) i)

    params-back : (type : x.DataType) (ps : List x.Parameter) (k : Known) (t : List ℕ) (n : ℕ) (s : Shape) → (fold (with_parameter g type) k ps).env t ≡ Some (b.Signal n s) → k.env t ≡ Some (b.Signal n s)
    params-back type [] k t n s e = e
    params-back type (a ∷ ps) k t n s e = back-of k.env a.name.name _ t n s (λ q. absurd cc) (params-back type ps (with_parameter g type k a) t n s e)

    -- ---- instances: each adds as many signals as its module's size says

    module _ (ms : List x.Module) (inner : f.Inner)
        (added : (base : Counts) (us : x.Instances) (u : x.NamedUnit) (of : x.Module) → module_named ms us.definition ≡ Some of
        → length (sigs (inner here base us u of)) ≡ (sizes us.definition).signals)
        (absent : (t : List ℕ) → module_named ms t ≡ None → (sizes t).signals ≡ 0) where
      -- the signals of the instances in an item
      inst : x.Item → ℕ
      inst (x.Instantiates us) = length us.units * (sizes us.definition).signals
      inst item = 0

      pub units-add : (us : x.Instances) (of : x.Module) → module_named ms us.definition ≡ Some of → (units : List x.NamedUnit) (base : Counts)
          → length (sigs (f.instances inner here base us of (sizes us.definition) units)) ≡ length units * (sizes us.definition).signals
      units-add us of is [] base = omega arith
      units-add us of is (u ∷ others) base =
          let c = (sizes us.definition).signals in
          let step = suc-mul (length others) c in
          let rest = units-add us of is others (plus base (sizes us.definition)) in
          let one = added base us u of is in
          let whole-list = ap (length {A = Signal}) (flat_map-append (λ (a : f.Part). a.signals) (inner here base us u of) (f.instances inner here (plus base (sizes us.definition)) us of (sizes us.definition) others)) in
          omega (arith, whole-list, rest, one, step, length-append (sigs (inner here base us u of)) (sigs (f.instances inner here (plus base (sizes us.definition)) us of (sizes us.definition) others)))

      instances-add : (us : x.Instances) (next : Counts)
          → length (sigs (option_map_or (λ of. f.instances inner here next us of (sizes us.definition) us.units) (module_named ms us.definition) [])) ≡ length us.units * (sizes us.definition).signals
      instances-add us next = by (module_named ms us.definition) refl
        where
          by : (q : Option x.Module) → module_named ms us.definition ≡ q
              → length (sigs (option_map_or (λ of. f.instances inner here next us of (sizes us.definition) us.units) q [])) ≡ length us.units * (sizes us.definition).signals
          by None e = let nothing = ap (λ z. length us.units * z) (absent us.definition e) in omega (arith, nothing)
          by (Some of) e = units-add us of e us.units next

      record One (o : ℕ) (xs : List Signal) (known : List (List ℕ)) (k : Known) (next : Counts) (item : x.Item) : Type 0 where
        own : List Signal
        emits : sigs (f.item_parts inner sizes ms here g next item) ≡ own
        stands : At o (seen known (signals_in item)) (with_item sizes g m k item) (xs ++ own)
        counts : length own ≡ length (new_ones known (signals_in item)) + inst item
        next-is : (f.behind_item sizes here next item).signals ≡ (with_item sizes g m k item).next.signals

      plain-item : (o : ℕ) (xs : List Signal) (known : List (List ℕ)) (k j : Known) (next : Counts) → next.signals ≡ k.next.signals
          → At o known k xs → At o known j xs → j.next.signals ≡ k.next.signals → next.signals + 0 + 0 ≡ j.next.signals
      plain-item o xs known k j next same h i is = omega (arith, same, is)

      one-item : (item : x.Item) (o : ℕ) (xs : List Signal) (known : List (List ℕ)) (k : Known) (next : Counts) → next.signals ≡ k.next.signals
          → IsApart (signals_of m) item → Each (λ d. Inside d.name.name) (signals_in item)
          → At o known k xs → Lasts (with_item sizes g m k item) → One o xs known k next item
      unfolding Each seen here inst
      one-item (x.Parameters type ps) o xs known k next same apart i h lasts =
          let j = fold (with_parameter g type) k ps in
          let is : j.next.signals ≡ k.next.signals = ap (λ (c : Counts). c.signals) (params-next type ps k) in
          let stands = at-same o xs known k j h is (params-env type ps k apart) (params-back type ps k) in
          record {
            own = [];
            emits = refl;
            stands = subst (λ z. At o known j z) (sym (append-nil xs)) stands;
            counts = refl;
            next-is = plain-item o xs known k j next same h stands is;
          }
      one-item (x.Functions a) o xs known k next same apart i h lasts =
          let j = with_item sizes g m k (x.Functions a) in
          let is : j.next.signals ≡ k.next.signals = omega arith in
          let stands = at-same o xs known k j h is (λ t inside. bound-elsewhere k.env a.name.name t _ (apart-text a.name.name t apart inside)) (λ t n s e. back-of k.env a.name.name _ t n s (λ q. absurd cc) e) in
          record {
            own = [];
            emits = refl;
            stands = subst (λ z. At o known j z) (sym (append-nil xs)) stands;
            counts = refl;
            next-is = plain-item o xs known k j next same h stands is;
          }
      one-item (x.Signals ds) o xs known k next same apart i h lasts =
          let all = all-declared ds o xs known k i h lasts in
          record {
            own = signals here k.next.signals ds;
            emits = append-nil (signals here next.signals ds) ∙ ap (λ n. signals here n ds) same;
            stands = all.stands;
            counts = omega (arith, all.counts);
            next-is = omega (arith, same, h.len, all.counts, all.stands.len, length-append xs (signals here k.next.signals ds), ap (λ n. length (signals here n ds)) same);
          }
      one-item (x.Assigns as') o xs known k next same apart i h lasts =
          let j = with_item sizes g m k (x.Assigns as') in
          let is : j.next.signals ≡ k.next.signals = omega arith in
          let stands = at-same o xs known k j h is (λ t inside. refl) (λ t n s e. e) in
          record {
            own = [];
            emits = refl;
            stands = subst (λ z. At o known j z) (sym (append-nil xs)) stands;
            counts = refl;
            next-is = plain-item o xs known k j next same h stands is;
          }
      one-item (x.Initial at a) o xs known k next same apart i h lasts =
          let j = with_item sizes g m k (x.Initial at a) in
          let is : j.next.signals ≡ k.next.signals = omega arith in
          let stands = at-same o xs known k j h is (λ t inside. refl) (λ t n s e. e) in
          record {
            own = [];
            emits = refl;
            stands = subst (λ z. At o known j z) (sym (append-nil xs)) stands;
            counts = refl;
            next-is = plain-item o xs known k j next same h stands is;
          }
      one-item (x.Always at trigger a) o xs known k next same apart i h lasts =
          let j = with_item sizes g m k (x.Always at trigger a) in
          let is : j.next.signals ≡ k.next.signals = omega arith in
          let stands = at-same o xs known k j h is (λ t inside. refl) (λ t n s e. e) in
          record {
            own = [];
            emits = refl;
            stands = subst (λ z. At o known j z) (sym (append-nil xs)) stands;
            counts = refl;
            next-is = plain-item o xs known k j next same h stands is;
          }
      one-item (x.Instantiates us) o xs known k next same apart i h lasts =
          let own : List Signal = sigs (f.item_parts inner sizes ms here g next (x.Instantiates us)) in
          let size : length own ≡ length us.units * (sizes us.definition).signals = instances-add us next in
          let j = with_item sizes g m k (x.Instantiates us) in
          record {
            own = own;
            emits = refl;
            stands = record {
              len = omega (arith, h.len, size, length-append xs own);
              at = λ t n s e. where-more o xs own t n s (h.at t n s e);
              only = h.only;
              names = h.names;
            };
            counts = omega (arith, size);
            next-is = omega (arith, same);
          }

      -- ---- all items

      pub insts : List x.Item → ℕ
      insts [] = 0
      insts (item ∷ items) = inst item + insts items

      item-stays : (k : Known) (item : x.Item) → IsApart (signals_of m) item → (t : List ℕ) → Inside t → (y : Binding) → k.env t ≡ Some y → (with_item sizes g m k item).env t ≡ Some y
      item-stays k (x.Parameters type ps) apart t i y e = params-env type ps k apart t i ∙ e
      item-stays k (x.Signals ds) apart t i y e = all-stay ds k t y e
      item-stays k (x.Functions a) apart t i y e = bound-elsewhere k.env a.name.name t _ (apart-text a.name.name t apart i) ∙ e
      item-stays k (x.Assigns as') apart t i y e = e
      item-stays k (x.Initial at a) apart t i y e = e
      item-stays k (x.Always at trigger a) apart t i y e = e
      item-stays k (x.Instantiates us) apart t i y e = e

      pub items-stay : (items : List x.Item) (k : Known) → Each (IsApart (signals_of m)) items → (t : List ℕ) → Inside t → (y : Binding) → k.env t ≡ Some y → (fold (with_item sizes g m) k items).env t ≡ Some y
      unfolding Each
      items-stay [] k apart t i y e = e
      items-stay (item ∷ items) k apart t i y e = items-stay items (with_item sizes g m k item) apart.1 t i y (item-stays k item apart.0 t i y e)

      pub record All-items (o : ℕ) (xs : List Signal) (k : Known) (next : Counts) (known : List (List ℕ)) (items : List x.Item) : Type 0 where
        pub own : List Signal
        pub emits : sigs (f.items_parts inner sizes ms here g next items) ≡ own
        pub last : List (List ℕ)
        pub stands : At o last (fold (with_item sizes g m) k items) (xs ++ own)
        pub counts : length own ≡ news known items + insts items
        pub next-are : (fold (f.behind_item sizes here) next items).signals ≡ (fold (with_item sizes g m) k items).next.signals

      pub all-items : (items : List x.Item) (o : ℕ) (xs : List Signal) (known : List (List ℕ)) (k : Known) (next : Counts) → next.signals ≡ k.next.signals
          → Each (IsApart (signals_of m)) items → Each (λ item. Each (λ d. Inside d.name.name) (signals_in item)) items
          → At o known k xs → Lasts (fold (with_item sizes g m) k items) → All-items o xs k next known items
      unfolding Each news insts
      all-items [] o xs known k next same apart i h lasts =
          record { own = []; emits = refl; last = known; stands = subst (λ z. At o known k z) (sym (append-nil xs)) h; counts = refl; next-are = same }
      all-items (item ∷ items) o xs known k next same apart i h lasts =
          let j = with_item sizes g m k item in
          let now = one-item item o xs known k next same apart.0 i.0 h (λ t inside y e. lasts t inside y (items-stay items j apart.1 t inside y e)) in
          let rest = all-items items o (xs ++ now.own) (seen known (signals_in item)) j (f.behind_item sizes here next item) now.next-is apart.1 i.1 now.stands lasts in
          let parts = flat_map-append (λ (a : f.Part). a.signals) (f.item_parts inner sizes ms here g next item) (f.items_parts inner sizes ms here g (f.behind_item sizes here next item) items) in
          record {
            own = now.own ++ rest.own;
            emits = parts ∙ (ap (λ z. z ++ sigs (f.items_parts inner sizes ms here g (f.behind_item sizes here next item) items)) now.emits ∙ ap (λ z. now.own ++ z) rest.emits);
            last = rest.last;
            stands = subst (λ z. At o rest.last (fold (with_item sizes g m) j items) z) (append_assoc xs now.own rest.own) rest.stands;
            counts = omega (arith, now.counts, rest.counts, length-append now.own rest.own);
            next-are = rest.next-are;
          }

      item-count : (item : x.Item) → (item_counts sizes item).signals ≡ inst item
      unfolding inst
      item-count (x.Parameters type ps) = omega arith
      item-count (x.Signals ds) = omega arith
      item-count (x.Functions a) = omega arith
      item-count (x.Assigns as') = omega arith
      item-count (x.Initial at a) = omega arith
      item-count (x.Always at trigger a) = omega arith
      item-count (x.Instantiates us) = refl

      pub counts-fold : (items : List x.Item) (c : Counts)
          → (fold (λ (z : Counts) item. plus z (item_counts sizes item)) c items).signals ≡ c.signals + insts items
      unfolding insts
      counts-fold [] c = omega arith
      counts-fold (item ∷ items) c =
          let rest = counts-fold items (plus c (item_counts sizes item)) in
          omega (arith, rest, item-count item)

-- ---- lists of declarations

new-by : (c : Bool) (d : x.Declared) (a e : List x.Declared) (as' es : List x.Declared) (p q : List (List ℕ)) (ys : List x.Declared)
    → length a ≡ length as' + length (new_ones p ys) → length e ≡ length es + length (new_ones q ys)
    → length (if c then a else d ∷ e) ≡ length (if c then as' else d ∷ es) + length (new_ones (if c then p else q) ys)
new-by true d a e as' es p q ys h k = h
new-by false d a e as' es p q ys h k = omega (arith, k)

new-append : (known : List (List ℕ)) (xs ys : List x.Declared) → length (new_ones known (xs ++ ys)) ≡ length (new_ones known xs) + length (new_ones (seen known xs) ys)
unfolding seen
new-append known [] ys = omega arith
new-append known (d ∷ xs) ys =
    new-by (list_any (bytes_eq d.name.name) known) d (new_ones known (xs ++ ys)) (new_ones (d.name.name ∷ known) (xs ++ ys)) (new_ones known xs) (new_ones (d.name.name ∷ known) xs)
    (seen known xs) (seen (d.name.name ∷ known) xs) ys (new-append known xs ys) (new-append (d.name.name ∷ known) xs ys)

any-append : {A : Type 0} (p : A → Bool) (xs ys : List A) → list_any p (xs ++ ys) ≡ (list_any p xs || list_any p ys)
any-append p [] ys = refl
any-append p (y ∷ xs) ys = by (p y) (any-append p xs ys)
  where
    by : (c : Bool) → list_any p (xs ++ ys) ≡ (list_any p xs || list_any p ys) → (c || list_any p (xs ++ ys)) ≡ ((c || list_any p xs) || list_any p ys)
    by true h = refl
    by false h = h

-- each of some declarations between others is declared
between : (front es back : List x.Declared) → Each (λ d. declared (front ++ (es ++ back)) d.name.name ≡ true) es
unfolding Each
between front [] back = tt
between front (d ∷ es) back =
    let t = d.name.name in
    let here-it : declared (d ∷ es ++ back) t ≡ true = ap (λ z. z || declared (es ++ back) t) (text-same t) in
    let now = any-append (λ (e : x.Declared). bytes_eq t e.name.name) front (d ∷ es ++ back) ∙ (ap (λ z. declared front t || z) here-it ∙ or-true (declared front t)) in
    (now, subst (λ z. Each (λ e. declared z e.name.name ≡ true) es) (append_assoc front (d ∷ []) (es ++ back)) (between (front ++ d ∷ []) es back))

pub items-between : (front : List x.Declared) (items : List x.Item) → Each (λ item. Each (λ d. declared (front ++ flat_map signals_in items) d.name.name ≡ true) (signals_in item)) items
unfolding Each
items-between front [] = tt
items-between front (item ∷ items) = (
  between front (signals_in item) (flat_map signals_in items),
  subst (λ z. Each (λ i. Each (λ d. declared z d.name.name ≡ true) (signals_in i)) items) (append_assoc front (signals_in item) (flat_map signals_in items)) (items-between (front ++ signals_in item) items),
)

pub news-is : (known : List (List ℕ)) (items : List x.Item) → news known items ≡ length (new_ones known (flat_map signals_in items))
unfolding news
news-is known [] = refl
news-is known (item ∷ items) =
    let rest = news-is (seen known (signals_in item)) items in
    omega (arith, rest, new-append known (signals_in item) (flat_map signals_in items))

-- ---- instances

-- what the body of an instance adds
pub record Body (n : ℕ) (ms : List x.Module) (behind : ℕ) (g : Given) (m : x.Module) : Type 0 where
  pub own : List Signal
  pub emits : sigs (f.body (f.instance n ms) (size n ms) ms behind (environment (size n ms) g m) g m) ≡ own
  pub count : length own ≡ (module_counts (size n ms) m).signals
  pub at : (t : List ℕ) (k : ℕ) (s : Shape) → environment (size n ms) g m t ≡ Some (b.Signal k s) → Where (size n ms) g m g.base.signals own t k s

pub size-absent : (n : ℕ) (ms : List x.Module) (t : List ℕ) → module_named ms t ≡ None → (size n ms t).signals ≡ 0
unfolding size
size-absent zero ms t e = refl
size-absent (suc n) ms t e = ap (λ (o : Option x.Module). (option_map_or (module_counts (size n ms)) o no_more).signals) e

pub size-named : (n : ℕ) (ms : List x.Module) (t : List ℕ) (m : x.Module) → module_named ms t ≡ Some m → (size (suc n) ms t).signals ≡ (module_counts (size n ms) m).signals
unfolding size
size-named n ms t m e = ap (λ (o : Option x.Module). (option_map_or (module_counts (size n ms)) o no_more).signals) e

pub body-adds : (n : ℕ) (ms : List x.Module) (behind : ℕ) (g : Given) (m : x.Module) → AreApart m
    → ((above : Here) (base : Counts) (us : x.Instances) (u : x.NamedUnit) (of : x.Module) → module_named ms us.definition ≡ Some of
    → length (sigs (f.instance n ms above base us u of)) ≡ (size n ms us.definition).signals)
    → Body n ms behind g m
unfolding here
body-adds n ms behind g m apart inner =
    let sizes = size n ms in
    let env = environment sizes g m in
    let start : Known = record { env = none; next = g.base } in
    let added = inner (here sizes g m env behind) in
    let counted = counts-fold sizes g m env behind ms (f.instance n ms) added (size-absent n ms) m.items (record { signals = length (new_ones [] (signals_of m)); functions = 0 }) in
    let declared-ones = news-is [] m.items in
    let at-start : At sizes g m g.base.signals [] start [] = record { len = omega arith; at = λ t k s e. absurd cc; only = λ t i y e. absurd cc; names = λ t i. refl } in
    let all = all-items sizes g m env behind ms (f.instance n ms) added (size-absent n ms) m.items g.base.signals [] [] start g.base refl
    (each-from (IsApart (signals_of m)) m.items apart) (items-between [] m.items) at-start (λ t i y e. e) in
    record {
      own = all.own;
      emits = all.emits;
      count = omega (arith, all.counts, counted, declared-ones);
      at = λ t k s e. all.stands.at t k s e;
    }

-- the signals of an instance are those of its body
pub instance-sigs : (n : ℕ) (ms : List x.Module) (above : Here) (base : Counts) (us : x.Instances) (u : x.NamedUnit) (m : x.Module)
    → sigs (f.instance (suc n) ms above base us u m) ≡ sigs (f.body (f.instance n ms) (size n ms) ms above.behind (environment (size n ms) (given above base us u m) m) (given above base us u m) m)
instance-sigs n ms above base us u m = body-only (λ a. a.signals) (λ ps es. refl) (λ env g us. refl) n ms above base us u m

pub instance-adds : (n : ℕ) (ms : List x.Module) → All AreApart ms → (above : Here) (base : Counts) (us : x.Instances) (u : x.NamedUnit) (m : x.Module) → module_named ms us.definition ≡ Some m
    → length (sigs (f.instance n ms above base us u m)) ≡ (size n ms us.definition).signals
unfolding instance size
instance-adds zero ms apart above base us u m is = refl
instance-adds (suc n) ms apart above base us u m is =
    let counted = size-named n ms us.definition m is in
    let body = body-adds n ms above.behind (given above base us u m) m (found-holds AreApart (λ z. bytes_eq us.definition z.name.name) ms m apart is) (instance-adds n ms apart) in
    ap (length {A = Signal}) (instance-sigs n ms above base us u m) ∙ (ap (length {A = Signal}) body.emits ∙ (body.count ∙ sym counted))

-- a design that isn't stopped is that of the parts
pub design-is : (r : Result o.Totals Stop) (a d : p.Design) → (r >>= λ n. Ok a) ≡ Ok d → a ≡ d
design-is (Ok n) a d e = cc
design-is (Err q) a d e = absurd cc
