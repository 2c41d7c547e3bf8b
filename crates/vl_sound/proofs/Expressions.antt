-- An expression whose names are used as what they are, and stand for it, is sound where it has no fault.
use Rattle.std.proofs.Common.{◌≡◌, ℕ, ◌+◌, ◌*◌, Bool, true, false, if◌then◌else◌, List, [], ◌++◌, Option, Some, None, refl, sym, ap, ◌∙◌, subst}
use Rattle.std.specs.Prelude.{ℤ, ⊤, fold, codes, not, ◌&&◌, ◌||◌, slice_get}
use Rattle.std.specs.Str.{bytes_eq}
use Rattle.std.proofs.lemmas.Bool.{or_from}
use Rattle.std.proofs.lemmas.Slice.Eq.{bytes_eq-Decides}
use Rattle.std.proofs.lemmas.Option.{slice_get_within}
use Rattle.vl_flat.specs.vl_base.specs.declared.place.Place.{Place}
use Rattle.vl_flat.specs.vl_base.specs.declared.bits.UnOp.{UnOp}
use Rattle.vl_flat.specs.vl_tree.specs.declared.tree.SelectMark.{SelectMark}
use Rattle.vl_flat.specs.vl_tree.specs.declared.tree.SelectMark.TheVariants as m
use Rattle.vl_names.specs.vl_scope.specs.declared.kind.Class.{Class}
use Rattle.vl_names.specs.vl_scope.specs.declared.kind.Class.TheVariants as c
use Rattle.vl_flat.specs.vl_design.specs.declared.design.Form.{Form}
use Rattle.vl_flat.specs.vl_design.specs.declared.design.SigKind.{SigKind}
use Rattle.vl_flat.specs.vl_design.specs.declared.design.SigKind.TheVariants as sk
use Rattle.vl_flat.specs.vl_design.specs.Rows.{range_width, has_width}
use Rattle.vl_flat.specs.vl_design.specs.Width as w
use Rattle.vl_flat.specs.vl_design.specs.Sound.{IsWidth, IsOf, HasValue, IsMem, IsMemory, Takes, count_of, IsSoundExp, AreSound}
use Rattle.vl_flat.specs.vl_design.specs.Placed as p
use Rattle.vl_flat.specs.vl_design.specs.Plainly as plain
use Rattle.vl_flat.specs.declared.binding.Binding.{Binding}
use Rattle.vl_flat.specs.declared.binding.Binding.TheVariants as b
use Rattle.vl_flat.specs.declared.binding.Shape.{Shape}
use Rattle.vl_flat.specs.Surface as x
use Rattle.vl_flat.specs.Scopes.{Scope, form_of, range_of, number_of}
use Rattle.vl_flat.specs.Constants as constants
use Rattle.vl_flat.specs.Expressions as e
use Rattle.vl_flat.specs.ExpressionFaults as ef
use Rattle.vl_sound.specs.Naming.{StandsIn, IsValue, IsCalled, IsResolved, AreResolved, AreResolvedSelects, AreResolvedArgs}
use Rattle.vl_sound.proofs.Forms.{form-same}
use Rattle.vl_sound.specs.Used as u
use Rattle.vl_sound.specs.Agreeing.{StandsAs, Agrees, StandsFor}
use Rattle.vl_sound.specs.Widths.{HasWidth, HaveWidths}
use Rattle.vl_sound.proofs.Parts.{none-left, none-right, clear, past-clear, width-is, one-bit, zero-is, number-is, operand-is}

-- ---- functions whose calls are operands

pub operand-by : (P : List ℕ → Type 0) → P (codes "$signed") → P (codes "$unsigned") → P (codes "$time") → (name : List ℕ) → u.is_operand name ≡ true → P name
operand-by P s n t name h = by (bytes_eq name (codes "$signed")) (bytes_eq name (codes "$unsigned")) refl refl h
  where
    by : (a b : Bool) → bytes_eq name (codes "$signed") ≡ a → bytes_eq name (codes "$unsigned") ≡ b → (a || (b || bytes_eq name (codes "$time"))) ≡ true → P name
    by true b e g q = subst P (sym ((bytes_eq-Decides name (codes "$signed")).0 e)) s
    by false true e g q = subst P (sym ((bytes_eq-Decides name (codes "$unsigned")).0 g)) n
    by false false e g q = subst P (sym ((bytes_eq-Decides name (codes "$time")).0 q)) t

keeps-none : (name : List ℕ) → u.is_operand name ≡ true → e.keeps_texts name ≡ false
keeps-none = operand-by (λ name. e.keeps_texts name ≡ false) refl refl refl

-- ---- kinds of signals

pub not-mem : (kind : SigKind) → HasValue kind → e.is_mem kind ≡ false
not-mem sk.Mem h = absurd h
not-mem kind h = refl

pub is-mem : (kind : SigKind) → IsMem kind → e.is_mem kind ≡ true
is-mem sk.Mem h = refl
is-mem kind h = absurd h

-- ---- selects

-- the indices of selects: what stands before `:` is none
abbrev pub AtIndices : (x.Ex → Type 0) → x.Selects → Type 0
AtIndices P x.NoSelects = ⊤
AtIndices P (x.Index at i others) = P i × AtIndices P others
AtIndices P (x.Range at m.Range l r others) = AtIndices P others
AtIndices P (x.Range at mark l r others) = P l × AtIndices P others

-- ---- no string of a whole without faults is too long

module _ (k : u.Classes) (scope : Scope) where
  mutual
    pub short : (a : x.Ex) → u.IsUsed k a → ef.faults scope a ≡ [] → ef.holds_long a ≡ false
    short (x.Number at n) v h = refl
    short (x.Text at text) v h = clear (e.is_long text) at 24 h
    short (x.Named at t ss) v h =
        short-selects ss v.1 (none-right (ef.directions scope at (scope.names t) ss) (ef.selects_faults scope ss) (none-right (ef.past scope (x.Named at t ss)) _ h))
    short (x.Paren at a) v h = short a v h
    short (x.Unary at op a) v h = short a v (none-right (ef.past scope (x.Unary at op a)) (ef.faults scope a) h)
    short (x.Binary at op a b) v h =
        let both = none-right (ef.past scope (x.Binary at op a b)) (ef.faults scope a ++ ef.faults scope b) h in
        or_from (ef.holds_long a) (ef.holds_long b) (short a v.0 (none-left (ef.faults scope a) (ef.faults scope b) both)) (short b v.1 (none-right (ef.faults scope a) (ef.faults scope b) both))
    short (x.Choice at t a b) v h =
        let all = none-right (ef.past scope (x.Choice at t a b)) (ef.faults scope t ++ (ef.faults scope a ++ ef.faults scope b)) h in
        let both = none-right (ef.faults scope t) (ef.faults scope a ++ ef.faults scope b) all in
        or_from (ef.holds_long t) (ef.holds_long a || ef.holds_long b) (short t v.0 (none-left (ef.faults scope t) _ all))
        (or_from (ef.holds_long a) (ef.holds_long b) (short a v.1 (none-left (ef.faults scope a) (ef.faults scope b) both)) (short b v.2 (none-right (ef.faults scope a) (ef.faults scope b) both)))
    short (x.Joined at es) v h = short-all es v (none-right (ef.past scope (x.Joined at es)) (ef.all_faults scope es) h)
    short (x.Repeated at n es) v h =
        let all = none-right (ef.past scope (x.Repeated at n es)) _ h in
        let rest = none-right (ef.faults scope n) (ef.constant_must scope constants.is_count n 10 ++ ef.all_faults scope es) all in
        or_from (ef.holds_long n) (ef.some_hold_long es) (short n v.0 (none-left (ef.faults scope n) _ all)) (short-all es v.1 (none-right (ef.constant_must scope constants.is_count n 10) (ef.all_faults scope es) rest))
    short (x.Called at t es) v h = short-all es v.1 (none-right (ef.past scope (x.Called at t es)) (ef.all_faults scope es) h)
    short (x.System at name given) v h =
        short-args given v.1 (ap (λ z. ef.args_faults scope z given) (sym (keeps-none name v.0)) ∙ none-right (ef.past scope (x.System at name given)) _ h)

    short-all : (es : x.Exs) → u.AreUsed k es → ef.all_faults scope es ≡ [] → ef.some_hold_long es ≡ false
    short-all x.NoExs v h = refl
    short-all (x.MoreExs a es) v h =
        or_from (ef.holds_long a) (ef.some_hold_long es) (short a v.0 (none-left (ef.faults scope a) (ef.all_faults scope es) h)) (short-all es v.1 (none-right (ef.faults scope a) (ef.all_faults scope es) h))

    short-selects : (ss : x.Selects) → u.AreUsedSelects k ss → ef.selects_faults scope ss ≡ [] → ef.selects_hold_long ss ≡ false
    short-selects x.NoSelects v h = refl
    short-selects (x.Index at a others) v h =
        or_from (ef.holds_long a) (ef.selects_hold_long others) (short a v.0 (none-left (ef.faults scope a) (ef.selects_faults scope others) h)) (short-selects others v.1 (none-right (ef.faults scope a) (ef.selects_faults scope others) h))
    short-selects (x.Range at mark l r others) v h =
        let behind = none-right (ef.left_bound scope mark l) _ (none-right (ef.faults scope l) _ h) in
        or_from (ef.holds_long l) (ef.holds_long r || ef.selects_hold_long others) (short l v.0 (none-left (ef.faults scope l) _ h))
        (or_from (ef.holds_long r) (ef.selects_hold_long others) (short r v.1 (none-left (ef.faults scope r) _ behind))
        (short-selects others v.2 (none-right (ef.right_bound scope mark r) (ef.selects_faults scope others) (none-right (ef.faults scope r) _ behind))))

    short-args : (given : x.Args) → u.AreUsedArgs k given → ef.args_faults scope false given ≡ [] → ef.args_hold_long given ≡ false
    short-args x.NoArgs v h = refl
    short-args (x.NullArg others) v h = short-args others v h
    short-args (x.MoreArgs a others) v h =
        or_from (ef.holds_long a) (ef.args_hold_long others) (short a v.0 (none-left (ef.faults scope a) (ef.args_faults scope false others) h)) (short-args others v.1 (none-right (ef.faults scope a) (ef.args_faults scope false others) h))

  pub behind-range : (mark : SelectMark) (l r : x.Ex) (others : x.Selects)
      → ef.faults scope l ++ (ef.left_bound scope mark l ++ (ef.faults scope r ++ (ef.right_bound scope mark r ++ ef.selects_faults scope others))) ≡ [] → ef.selects_faults scope others ≡ []
  behind-range mark l r others h =
      none-right (ef.right_bound scope mark r) (ef.selects_faults scope others) (none-right (ef.faults scope r) _ (none-right (ef.left_bound scope mark l) _ (none-right (ef.faults scope l) _ h)))

  -- an expression that isn't past its width is of 1 to 128 bits
  pub wide : (a : x.Ex) → ef.holds_long a ≡ false → ef.past scope a ≡ [] → IsWidth (e.form scope a).width
  wide a short h =
      width-is (e.form scope a).width (past-clear (has_width (e.form scope a).width) (ef.holds_long a) short
      (clear (not (has_width (e.form scope a).width) && not (ef.holds_long a)) (x.node_place a) 10 h))

module _ (k : u.Classes) (scope : Scope) (agrees : Agrees k scope) where
  -- ---- names stand for what they are used as

  value-stands : (class : Class) (b : Option Binding) (ss : x.Selects) → StandsAs class b → u.IsRead (Some class) ss → IsValue b
  value-stands class None ss h v = tt
  value-stands class (Some (b.Constant a)) ss h v = tt
  value-stands class (Some (b.Signal j s)) ss h v = tt
  value-stands (c.Function n) (Some (b.Function j f)) ss h v = absurd v
  value-stands c.Instance (Some (b.Function j f)) ss h v = absurd v
  value-stands class (Some (b.Function j f)) ss h v = absurd h

  read-value : (t : List ℕ) (ss : x.Selects) → u.IsRead (k.read t) ss → IsValue (scope.names t)
  read-value t ss v = by (k.read t) refl v
    where
      by : (o : Option Class) → k.read t ≡ o → u.IsRead o ss → IsValue (scope.names t)
      by None e v = absurd v
      by (Some class) e v = value-stands class (scope.names t) ss (agrees.read t class e) v

  called-stands : (n : ℕ) (b : Option Binding) → StandsAs (c.Function n) b → IsCalled b
  called-stands n (Some (b.Function j f)) h = tt
  called-stands n (Some (b.Signal j s)) h = absurd h
  called-stands n (Some (b.Constant a)) h = absurd h
  called-stands n None h = absurd h

  mutual
    resolved : (a : x.Ex) → u.IsUsed k a → IsResolved scope a
    resolved (x.Number at n) v = tt
    resolved (x.Text at text) v = tt
    resolved (x.Named at t ss) v = (read-value t ss v.0, resolved-selects ss v.1)
    resolved (x.Paren at a) v = resolved a v
    resolved (x.Unary at op a) v = resolved a v
    resolved (x.Binary at op a b) v = (resolved a v.0, resolved b v.1)
    resolved (x.Choice at t a b) v = (resolved t v.0, resolved a v.1, resolved b v.2)
    resolved (x.Joined at es) v = resolved-all es v
    resolved (x.Repeated at n es) v = (resolved n v.0, resolved-all es v.1)
    resolved (x.Called at t es) v = (called-stands (u.how_many es) (scope.calls t) (agrees.called t (u.how_many es) v.0), resolved-all es v.1)
    resolved (x.System at name given) v = resolved-args given v.1

    resolved-all : (es : x.Exs) → u.AreUsed k es → AreResolved scope es
    resolved-all x.NoExs v = tt
    resolved-all (x.MoreExs a es) v = (resolved a v.0, resolved-all es v.1)

    resolved-selects : (ss : x.Selects) → u.AreUsedSelects k ss → AreResolvedSelects scope ss
    resolved-selects x.NoSelects v = tt
    resolved-selects (x.Index at a others) v = (resolved a v.0, resolved-selects others v.1)
    resolved-selects (x.Range at mark l r others) v = (resolved l v.0, resolved r v.1, resolved-selects others v.2)

    resolved-args : (given : x.Args) → u.AreUsedArgs k given → AreResolvedArgs scope given
    resolved-args x.NoArgs v = tt
    resolved-args (x.NullArg others) v = resolved-args others v
    resolved-args (x.MoreArgs a others) v = (resolved a v.0, resolved-args others v.1)

  module _ (design : w.Names) (stands : StandsFor k scope design) where
    pub stands-in : StandsIn scope design
    stands-in = record {
      signals = λ t j s h. let (r, at, is) = stands.signals t j s h in ap w.row_form at ∙ (ap (λ z. record { width = z; signed = r.signed }) is.width ∙ ap (λ z. record { width = range_width s.left s.right; signed = z }) is.signed);
      inside = λ t j s h. let (r, at, is) = stands.signals t j s h in slice_get_within design.rows j r at;
      functions = stands.results;
    }

    -- an expression has in the design the width and the sign by which it is judged
    pub form-is : (a : x.Ex) → u.IsUsed k a → w.form design (plain.exp (e.exp scope a)) ≡ e.form scope a
    form-is a v = form-same scope design stands-in a (resolved a v)

    total-is : (at : Place) (es : x.Exs) → u.AreUsed k es → w.total_width design (plain.exps (e.exps scope es)) ≡ e.total_width scope es
    total-is at es v = ap (λ (z : Form). z.width) (form-is (x.Joined at es) v)

    -- ---- what numbers name in the design

    abbrev Sound : p.Exp → Type 0
    Sound a = IsSoundExp design (plain.exp a)

    pub signal-is : (P : SigKind → Type 0) (t : List ℕ) (j : ℕ) (s : Shape) → scope.names t ≡ Some (b.Signal j s) → P s.kind → IsOf P (slice_get design.rows j)
    signal-is P t j s h v = let (r, at, is) = stands.signals t j s h in subst (IsOf P) (sym at) (subst P (sym is.kind) v, is.wide)

    -- ---- selects

    -- what selects of bits leave of a value
    abbrev bits : Place → ℤ × ℤ → x.Selects → p.Exp → p.Exp
    bits at r ss base = fold (e.stepped at) base (e.steps scope None r ss)

    bits-sound : (at : Place) (r : ℤ × ℤ) (base : p.Exp) (f : Form) (ss : x.Selects) → u.AreOfBits ss → Sound base → AtIndices (λ i. Sound (e.exp scope i)) ss
        → IsWidth (fold e.step_form f (e.steps scope None r ss)).width → Sound (bits at r ss base)
    bits-sound at r base f x.NoSelects v h i w = h
    bits-sound at r base f (x.Index q a x.NoSelects) v h i w = (one-bit, h, i.0)
    bits-sound at r base f (x.Range q m.Range l o x.NoSelects) v h i w = (w, h)
    bits-sound at r base f (x.Range q m.Up l o x.NoSelects) v h i w = (w, h, i.0)
    bits-sound at r base f (x.Range q m.Down l o x.NoSelects) v h i w = (w, h, i.0)
    bits-sound at r base f ss v h i w = absurd v

    -- a word of a memory, and selects of its bits
    abbrev word : Place → ℤ × ℤ → ℕ → x.Selects → p.Exp → p.Exp
    word at r j ss base = fold (e.stepped at) base (e.steps scope (Some j) r ss)

    word-sound : (at : Place) (r : ℤ × ℤ) (j : ℕ) (base : p.Exp) (f : Form) (ss : x.Selects) → u.AreOfAWord ss → IsMemory design j → AtIndices (λ i. Sound (e.exp scope i)) ss
        → IsWidth (fold e.step_form f (e.steps scope (Some j) r ss)).width → Sound (word at r j ss base)
    word-sound at r j base f (x.Index q i others) v h s w = bits-sound at r (p.Word at j (e.exp scope i)) f others v (h, s.0) s.1 w
    word-sound at r j base f x.NoSelects v h s w = absurd v
    word-sound at r j base f (x.Range q mark l o others) v h s w = absurd v

    -- ---- operators and calls

    marked-sound : (at : Place) (op : Option UnOp) (a : p.Exp) → Sound a → Sound (e.marked at op a)
    marked-sound at None a h = h
    marked-sound at (Some op) a h = h

    count-is : (es : x.Exs) → count_of (plain.exps (e.exps scope es)) ≡ u.how_many es
    count-is x.NoExs = refl
    count-is (x.MoreExs a es) = ap (λ z. 1 + z) (count-is es)

    -- a function that takes so many arguments, of a result of 1 to 128 bits
    called-is : (t : List ℕ) (n : ℕ) (b : Option Binding) → k.called t ≡ Some (c.Function n) → scope.calls t ≡ b → StandsAs (c.Function n) b → IsWidth (form_of b).width
        → Takes (slice_get design.funs (number_of b)) n × IsWidth (w.result_form design (number_of b)).width
    called-is t n (Some (b.Function j f)) class is h v =
        let (g, at, count) = stands.inputs t n j f class is in
        (subst (λ z. Takes z n) (sym at) count, subst (λ (z : Form). IsWidth z.width) (sym (stands.results t j f is)) v)
    called-is t n (Some (b.Signal j s)) class is h v = absurd h
    called-is t n (Some (b.Constant a)) class is h v = absurd h
    called-is t n None class is h v = absurd h

    abbrev pub made : Place → List ℕ → p.Exp → p.Args → Bool → Bool → Bool → p.Exp
    made at name first args a b c = if a then p.Cast at true first else if b then p.Cast at false first else if c then p.Time at else p.Sys at name args

    system-sound : (at : Place) (name : List ℕ) (first : p.Exp) (args : p.Args) → Sound first → Sound (e.called_system at name first args)
    system-sound at name first args s = by (bytes_eq name (codes "$signed")) (bytes_eq name (codes "$unsigned")) (bytes_eq name (codes "$time"))
      where
        by : (a b c : Bool) → Sound (made at name first args a b c)
        by true b c = s
        by false true c = s
        by false false true = tt
        by false false false = tt

    module _ (widths : HaveWidths scope.names) where
      -- ---- names

      -- what a name that is read stands for: a value, or a memory
      data Reads (b : Option Binding) (ss : x.Selects) : Type 0 where
        a_value : u.AreOfBits ss → e.memory_of b ≡ None → ((at : Place) → Sound (e.whole at b)) → Reads b ss
        a_memory : (j : ℕ) → u.AreOfAWord ss → e.memory_of b ≡ Some j → IsMemory design j → Reads b ss

      signal-reads : (t : List ℕ) (j : ℕ) (s : Shape) (ss : x.Selects) → scope.names t ≡ Some (b.Signal j s) → HasValue s.kind → u.AreOfBits ss → Reads (Some (b.Signal j s)) ss
      signal-reads t j s ss h v r = a_value r (ap (λ z. if z then Some j else None) (not-mem s.kind v)) (λ at. signal-is HasValue t j s h v)

      reads : (t : List ℕ) (class : Class) (b : Option Binding) (ss : x.Selects) → scope.names t ≡ b → StandsAs class b → u.IsRead (Some class) ss → Reads b ss
      reads t c.Port (Some (b.Signal j s)) ss e h v = signal-reads t j s ss e h v
      reads t c.Net (Some (b.Signal j s)) ss e h v = signal-reads t j s ss e h v
      reads t c.Variable (Some (b.Signal j s)) ss e h v = signal-reads t j s ss e h v
      reads t c.Memory (Some (b.Signal j s)) ss e h v = a_memory j v (ap (λ z. if z then Some j else None) (is-mem s.kind h)) (signal-is IsMem t j s e h)
      reads t (c.Parameter n) (Some (b.Constant a)) ss e h v = a_value v refl (λ at. (subst HasWidth e (widths t), h))
      reads t (c.Function n) b ss e h v = absurd v
      reads t c.Instance b ss e h v = absurd v
      reads t class b ss e h v = absurd h

      read-as : (t : List ℕ) (ss : x.Selects) → u.IsRead (k.read t) ss → Reads (scope.names t) ss
      read-as t ss v = by (k.read t) refl v
        where
          by : (o : Option Class) → k.read t ≡ o → u.IsRead o ss → Reads (scope.names t) ss
          by None e v = absurd v
          by (Some class) e v = reads t class (scope.names t) ss refl (agrees.read t class e) v

      abbrev named : Place → Option Binding → x.Selects → Option ℕ → p.Exp
      named at b ss memory = fold (e.stepped at) (e.whole at b) (e.steps scope memory (range_of b) ss)

      named-sound : (at : Place) (b : Option Binding) (ss : x.Selects) → Reads b ss → AtIndices (λ i. Sound (e.exp scope i)) ss → IsWidth (e.named_form scope b ss).width
          → Sound (named at b ss (e.memory_of b))
      named-sound at b ss (a_value r is whole) i w =
          subst (λ z. Sound (named at b ss z)) (sym is)
          (bits-sound at (range_of b) (e.whole at b) (form_of b) ss r (whole at) i (subst (λ z. IsWidth (fold e.step_form (form_of b) (e.steps scope z (range_of b) ss)).width) is w))
      named-sound at b ss (a_memory j r is there) i w =
          subst (λ z. Sound (named at b ss z)) (sym is)
          (word-sound at (range_of b) j (e.whole at b) (form_of b) ss r there i (subst (λ z. IsWidth (fold e.step_form (form_of b) (e.steps scope z (range_of b) ss)).width) is w))

      -- ---- expressions

      mutual
        pub sound : (a : x.Ex) → u.IsUsed k a → ef.faults scope a ≡ [] → Sound (e.exp scope a)
        sound (x.Number at n) v h = let is = number-is n v in (is.0, is.1)
        sound (x.Text at text) v h = operand-is text
        sound (x.Named at t ss) v h =
            let inside = none-right (ef.directions scope at (scope.names t) ss) (ef.selects_faults scope ss) (none-right (ef.past scope (x.Named at t ss)) _ h) in
            named-sound at (scope.names t) ss (read-as t ss v.0) (indices-sound ss v.1 inside)
            (wide k scope (x.Named at t ss) (short k scope (x.Named at t ss) v h) (none-left (ef.past scope (x.Named at t ss)) _ h))
        sound (x.Paren at a) v h = sound a v h
        sound (x.Unary at op a) v h = marked-sound at (e.unary_of op) (e.exp scope a) (sound a v (none-right (ef.past scope (x.Unary at op a)) (ef.faults scope a) h))
        sound (x.Binary at op a b) v h =
            let both = none-right (ef.past scope (x.Binary at op a b)) (ef.faults scope a ++ ef.faults scope b) h in
            (sound a v.0 (none-left (ef.faults scope a) (ef.faults scope b) both), sound b v.1 (none-right (ef.faults scope a) (ef.faults scope b) both))
        sound (x.Choice at t a b) v h =
            let all = none-right (ef.past scope (x.Choice at t a b)) (ef.faults scope t ++ (ef.faults scope a ++ ef.faults scope b)) h in
            let both = none-right (ef.faults scope t) (ef.faults scope a ++ ef.faults scope b) all in (
              sound t v.0 (none-left (ef.faults scope t) _ all),
              sound a v.1 (none-left (ef.faults scope a) (ef.faults scope b) both),
              sound b v.2 (none-right (ef.faults scope a) (ef.faults scope b) both),
            )
        sound (x.Joined at es) v h = (
          subst IsWidth (sym (total-is at es v)) (wide k scope (x.Joined at es) (short k scope (x.Joined at es) v h) (none-left (ef.past scope (x.Joined at es)) _ h)),
          sounds es v (none-right (ef.past scope (x.Joined at es)) (ef.all_faults scope es) h),
        )
        sound (x.Repeated at n es) v h =
            let all = none-right (ef.past scope (x.Repeated at n es)) _ h in
            let rest = none-right (ef.faults scope n) (ef.constant_must scope constants.is_count n 10 ++ ef.all_faults scope es) all in (
              subst (λ z. IsWidth (constants.count_of (e.constant scope n) * z)) (sym (total-is at es v.1))
                  (wide k scope (x.Repeated at n es) (short k scope (x.Repeated at n es) v h) (none-left (ef.past scope (x.Repeated at n es)) _ h)),
              sounds es v.1 (none-right (ef.constant_must scope constants.is_count n 10) (ef.all_faults scope es) rest),
            )
        sound (x.Called at t es) v h =
            let (takes, width) = called-is t (u.how_many es) (scope.calls t) v.0 refl (agrees.called t (u.how_many es) v.0)
            (wide k scope (x.Called at t es) (short k scope (x.Called at t es) v h) (none-left (ef.past scope (x.Called at t es)) _ h)) in (
              subst (λ z. Takes (slice_get design.funs (number_of (scope.calls t))) z) (sym (count-is es)) takes,
              width,
              sounds es v.1 (none-right (ef.past scope (x.Called at t es)) (ef.all_faults scope es) h),
            )
        sound (x.System at name given) v h =
            system-sound at name (e.first_of scope at given) (e.args scope (e.keeps_texts name) given)
            (first-sound at given v.1 (ap (λ z. ef.args_faults scope z given) (sym (keeps-none name v.0)) ∙ none-right (ef.past scope (x.System at name given)) _ h))

        pub sounds : (es : x.Exs) → u.AreUsed k es → ef.all_faults scope es ≡ [] → AreSound design (plain.exps (e.exps scope es))
        sounds x.NoExs v h = tt
        sounds (x.MoreExs a es) v h = (sound a v.0 (none-left (ef.faults scope a) (ef.all_faults scope es) h), sounds es v.1 (none-right (ef.faults scope a) (ef.all_faults scope es) h))

        pub indices-sound : (ss : x.Selects) → u.AreUsedSelects k ss → ef.selects_faults scope ss ≡ [] → AtIndices (λ i. Sound (e.exp scope i)) ss
        indices-sound x.NoSelects v h = tt
        indices-sound (x.Index at a others) v h =
            (sound a v.0 (none-left (ef.faults scope a) (ef.selects_faults scope others) h), indices-sound others v.1 (none-right (ef.faults scope a) (ef.selects_faults scope others) h))
        indices-sound (x.Range at m.Range l r others) v h = indices-sound others v.2 (behind-range k scope m.Range l r others h)
        indices-sound (x.Range at m.Up l r others) v h = (sound l v.0 (none-left (ef.faults scope l) _ h), indices-sound others v.2 (behind-range k scope m.Up l r others h))
        indices-sound (x.Range at m.Down l r others) v h = (sound l v.0 (none-left (ef.faults scope l) _ h), indices-sound others v.2 (behind-range k scope m.Down l r others h))

        first-sound : (at : Place) (given : x.Args) → u.AreUsedArgs k given → ef.args_faults scope false given ≡ [] → Sound (e.first_of scope at given)
        first-sound at x.NoArgs v h = zero-is
        first-sound at (x.NullArg others) v h = zero-is
        first-sound at (x.MoreArgs a others) v h = sound a v.0 (none-left (ef.faults scope a) (ef.args_faults scope false others) h)
