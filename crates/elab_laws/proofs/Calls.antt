-- Calls of functions on files without faults give answers.
use Rattle.std.proofs.Common.{◌≡◌, ℕ, Bool, true, false, true≢false, if◌then◌else◌, List, [], ◌∷◌, Option, Some, None, refl, sym, ap, ◌∙◌, subst}
use Rattle.std.specs.Prelude.{⊤, ◌||◌, is_some, fold, codes}
use Rattle.std.specs.Str.{bytes_eq}
use Rattle.std.proofs.lemmas.Bool.{and_parts}
use Rattle.vl_sound.specs.vl_base.specs.declared.place.Place.{Place}
use Rattle.vl_sound.specs.vl_tree.specs.declared.tree.Expression.{Expression}
use Rattle.vl_sound.specs.vl_tree.specs.declared.tree.Primary as p
use Rattle.vl_sound.specs.vl_tree.specs.declared.tree.Primary.{Primary}
use Rattle.vl_sound.specs.vl_tree.specs.declared.tree.SystemArgument.{SystemArgument, out-SystemArgument}
use Rattle.vl_sound.specs.vl_scope.specs.declared.kind.Class.TheVariants as c
use Rattle.vl_sound.specs.vl_scope.specs.declared.kind.Kind.{Kind}
use Rattle.vl_sound.specs.vl_scope.proofs.Listed.{bytes_eq-to}
use Rattle.vl_sound.specs.vl_uses.specs.Alone as s
use Rattle.vl_sound.specs.vl_uses.specs.Calls as l
use Rattle.ten_plan.specs.vl_design.specs.Calls.{fopen_of, fread_of, file_of}
use Rattle.ten_plan.specs.vl_design.specs.Formats.{Arg, Value}
use Rattle.ten_plan.specs.vl_design.specs.Plainly as plain
use Rattle.ten_plan.specs.vl_design.specs.Syntax as d
use Rattle.vl_sound.specs.vl_flat.specs.declared.binding.Binding.{Binding}
use Rattle.vl_sound.specs.vl_flat.specs.declared.binding.Binding.TheVariants as b
use Rattle.vl_sound.specs.vl_flat.specs.Surface as x
use Rattle.vl_sound.specs.vl_flat.specs.Binding as f
use Rattle.vl_sound.specs.vl_flat.specs.Scopes.{Scope, range_of}
use Rattle.vl_sound.specs.vl_flat.specs.Expressions as e
use Rattle.vl_sound.specs.Used.{Classes}
use Rattle.vl_sound.specs.Agreeing.{StandsAs, Agrees}
use Rattle.vl_sound.proofs.Opens.{held, given, argument-opens}
use Rattle.vl_sound.proofs.Loading.{sole-is}
use Rattle.elab_laws.proofs.Leaves.{is_fill, IsFilled, IsAnswering}
use Rattle.vl_accept.specs.vl_sites.specs.Answers.{gives_answer}

-- ---- arguments

-- the first one is a string
abbrev IsOpen : x.Args → Type 0
IsOpen (x.MoreArgs (x.Text at text) others) = ⊤
IsOpen given = ⊥

-- the first one is there
abbrev IsOfFile : x.Args → Type 0
IsOfFile (x.MoreArgs a others) = ⊤
IsOfFile given = ⊥

-- a variable, and one more
abbrev IsFill : Classes → x.Args → Type 0
IsFill k (x.MoreArgs (x.Named at t x.NoSelects) (x.MoreArgs a others)) = k.read t ≡ Some c.Variable
IsFill k given = ⊥

text-open : (q : Option Primary) (v : Expression) (others : x.Args) → s.sole v ≡ q → is_some (l.text_in q) ≡ true → IsOpen (x.MoreArgs (f.ex v) others)
text-open (Some (p.Str at text)) v others is h = subst (λ z. IsOpen (x.MoreArgs z others)) (sym (sole-is v (p.Str at text) is)) tt
text-open q v others is h = absurd (true≢false (sym h))

held-open : (o : Option Expression) (others : x.Args) → is_some (l.text_in (l.sole_in o)) ≡ true → IsOpen (held o others)
held-open None others h = absurd (true≢false (sym h))
held-open (Some v) others h = text-open (s.sole v) v others refl h

open-so : (as' : Option (List SystemArgument)) → l.is_open as' ≡ true → IsOpen (given as')
open-so (Some (a ∷ y ∷ [])) h =
    let others = f.argument y x.NoArgs in
    subst IsOpen (sym (argument-opens a others)) (held-open (out-SystemArgument a).argument others (and_parts (is_some (l.argument_text a)) (l.is_mode (l.argument_text y)) h).0)
open-so as' h = absurd (true≢false (sym h))

held-file : (o : Option Expression) (others : x.Args) → is_some o ≡ true → IsOfFile (held o others)
held-file None others h = absurd (true≢false (sym h))
held-file (Some v) others h = tt

file-so : (as' : Option (List SystemArgument)) → l.is_one as' ≡ true → IsOfFile (given as')
file-so (Some (a ∷ [])) h = subst IsOfFile (sym (argument-opens a x.NoArgs)) (held-file (out-SystemArgument a).argument x.NoArgs h)
file-so as' h = absurd (true≢false (sym h))

fill-two : (k : Classes) (a y : x.Ex) (others : x.Args) → IsFilled k (x.MoreArgs a (x.MoreArgs y others)) → IsFill k (x.MoreArgs a (x.MoreArgs y others))
fill-two k (x.Named at t x.NoSelects) y others h = h
fill-two k a y others h = absurd h

held-fill : (k : Classes) (o w : Option Expression) (others : x.Args) → IsFilled k (held o (held w others)) → is_some w ≡ true → IsFill k (held o (held w others))
held-fill k None w others h g = absurd h
held-fill k (Some v) None others h g = absurd (true≢false (sym g))
held-fill k (Some v) (Some y) others h g = fill-two k (f.ex v) (f.ex y) others h

fill-so : (means : List ℕ → Option Kind) (k : Classes) (as' : Option (List SystemArgument)) → l.is_read means as' ≡ true → IsFilled k (given as') → IsFill k (given as')
fill-so means k (Some (a ∷ y ∷ [])) h g =
    let is = argument-opens a (f.argument y x.NoArgs) ∙ ap (held (out-SystemArgument a).argument) (argument-opens y x.NoArgs) in
    subst (IsFill k) (sym is)
    (held-fill k (out-SystemArgument a).argument (out-SystemArgument y).argument x.NoArgs (subst (IsFilled k) is g) (and_parts (l.is_variable (l.argument_kind means a)) (l.is_given y) h).1)
fill-so means k as' h g = absurd (true≢false (sym h))

-- ---- answers

module _ (scope : Scope) where
  open-gives : (given : x.Args) → IsOpen given → gives_answer (fopen_of (plain.args (e.args scope true given))) ≡ true
  open-gives (x.MoreArgs (x.Text at text) others) h = refl
  open-gives given h = absurd h

  file-gives : (make : d.Exp → d.Task) → ((fd : d.Exp) → gives_answer (make fd) ≡ true) → (given : x.Args) → IsOfFile given → gives_answer (file_of make (plain.args (e.args scope false given))) ≡ true
  file-gives make m (x.MoreArgs a others) h = m (plain.exp (e.exp scope a))
  file-gives make m given h = absurd h

  no-steps : (o : Option ℕ) (r : _) → e.steps scope o r x.NoSelects ≡ []
  no-steps None r = refl
  no-steps (Some j) r = refl

  -- a variable's name is a signal
  whole-gives : (at : Place) (o : Option Binding) (fd : d.Exp) (others : List Arg) → StandsAs c.Variable o → gives_answer (fread_of (Value (plain.exp (e.whole at o)) ∷ Value fd ∷ others)) ≡ true
  whole-gives at (Some (b.Signal j y)) fd others h = refl
  whole-gives at o fd others h = absurd h

  fill-gives : (k : Classes) → Agrees k scope → (given : x.Args) → IsFill k given → gives_answer (fread_of (plain.args (e.args scope false given))) ≡ true
  fill-gives k agrees (x.MoreArgs (x.Named at t x.NoSelects) (x.MoreArgs a others)) h =
      let o = scope.names t in
      let rest = plain.args (e.args scope false others) in
      subst (λ z. gives_answer (fread_of (Value (plain.exp (fold (e.stepped at) (e.whole at o) z)) ∷ Value (plain.exp (e.exp scope a)) ∷ rest)) ≡ true) (sym (no-steps (e.memory_of o) (range_of o)))
      (whole-gives at o (plain.exp (e.exp scope a)) rest (agrees.read t c.Variable h))
  fill-gives k agrees given h = absurd h

-- a call of a function on files that there is gives an answer
pub files-answer : (means : List ℕ → Option Kind) (k : Classes) (name : List ℕ) (as' : Option (List SystemArgument)) → l.is_file_function means name as' ≡ true → (is_fill name ≡ true → IsFilled k (given as'))
    → IsAnswering k name (given as')
files-answer means k name as' h filled = by (bytes_eq name (codes "$fopen")) refl h
  where
    named : (n : List ℕ) → n ≡ name → IsAnswering k n (given as') → IsAnswering k name (given as')
    named n is w = subst (λ z. IsAnswering k z (given as')) is w

    files : (b c : Bool) → (bytes_eq name (codes "$fgetc")) ≡ b → bytes_eq name (codes "$feof") ≡ c → (if b || c then l.is_one as' else false) ≡ true → IsAnswering k name (given as')
    files true c is q h = named (codes "$fgetc") (bytes_eq-to name (codes "$fgetc") is) (λ path scope agrees. file-gives scope d.Fgetc (λ fd. refl) (given as') (file-so as' h))
    files false true is q h = named (codes "$feof") (bytes_eq-to name (codes "$feof") q) (λ path scope agrees. file-gives scope d.Feof (λ fd. refl) (given as') (file-so as' h))
    files false false is q h = absurd (true≢false (sym h))

    reads : (b : Bool) → bytes_eq name (codes "$fread") ≡ b → (if b then l.is_read means as' else if bytes_eq name (codes "$fgetc") || bytes_eq name (codes "$feof") then l.is_one as' else false) ≡ true
        → IsAnswering k name (given as')
    reads true is h = named (codes "$fread") (bytes_eq-to name (codes "$fread") is) (λ path scope agrees. fill-gives scope k agrees (given as') (fill-so means k as' h (filled is)))
    reads false is h = files (bytes_eq name (codes "$fgetc")) (bytes_eq name (codes "$feof")) refl refl h

    by : (b : Bool) → bytes_eq name (codes "$fopen") ≡ b
        → (if b then l.is_open as' else if bytes_eq name (codes "$fread") then l.is_read means as' else if bytes_eq name (codes "$fgetc") || bytes_eq name (codes "$feof") then l.is_one as' else false) ≡ true
        → IsAnswering k name (given as')
    by true is h = named (codes "$fopen") (bytes_eq-to name (codes "$fopen") is) (λ path scope agrees. open-gives scope (given as') (open-so as' h))
    by false is h = reads (bytes_eq name (codes "$fread")) refl h
