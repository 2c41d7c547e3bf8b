-- The text of a statement with its loops unrolled depends on no files, and not on what calls give.
use Rattle.std.proofs.Common.{◌≡◌, ℕ, zero, suc, Bool, true, false, List, refl, ap, ◌∙◌}
use Rattle.vl_base.specs.declared.files.File.{File}
use Rattle.vl_design.specs.declared.design.Form.{Form}
use Rattle.vl_design.specs.Syntax.{Exp, Num, Label, Sig, Word, Pick, Slice, Un, Bin, Cond, Cat, Rep, Cast, Call, Time, LastAnswer, Stm, Nop, Then, If, Case, For, Repeat, Set, Later, Sys, Items, NoItems, Labelled, Default, Row, Fun}
use Rattle.vl_design.specs.Width.{Scope, form}
use Rattle.vl_design.specs.Value.{Sample, value}
use Rattle.vl_design.specs.State.{State, sample}
use Rattle.vl_design.specs.Exec.{exec, goes_on, most_turns}
use Rattle.vl_loops.specs.Unroll.{unrolled, unrolled_items, in_turns, so_many}
use Rattle.vl_loops.specs.Fits.{IsHeader, Assigns, HasLoops, HaveLoops}
use Rattle.vl_loops.proofs.Closing.{next, header_form}

turns_alike : {S : Type 0} (n : ℕ) (p q : S → Bool) (u v : S → S) (f g : S → Stm) → ((x : S) → p x ≡ q x) → ((x : S) → u x ≡ v x) → ((x : S) → f x ≡ g x) → (x : S) → in_turns n p u f x ≡ in_turns n q v g x
turns_alike zero p q u v f g a b c x = refl
turns_alike (suc n) p q u v f g a b c x = at (p x) (q x) (a x) (turns_alike n p q u v f g a b c (u x) ∙ ap (in_turns n q v g) (b x))
  where
    at : (d e : Bool) → d ≡ e → in_turns n p u f (u x) ≡ in_turns n q v g (v x) →
        ◌≡◌ {A = Stm} (elim d [ true ↦ Then (f x) (in_turns n p u f (u x)) | false ↦ Nop ]) (elim e [ true ↦ Then (g x) (in_turns n q v g (v x)) | false ↦ Nop ])
    at true true z h = rw (c x, h) refl
    at false false z h = refl
    at true false z h = let y : ⊥ = cc in absurd y
    at false true z h = let y : ⊥ = cc in absurd y

module _ (scope : Scope) (signals : List Row) (funs : List Fun) (files : List File) (call : ℕ → List ℕ → ℕ) where
  abbrev new : Scope
  new = next scope signals funs files call

  module _ (s : Sample) where
    across : (e : Exp) → IsHeader scope.names.rows e → (c : Form) → value new s e c ≡ value scope s e c
    across (Num v w signed) k c = refl
    across (Label v care w signed) k c = refl
    across (Sig j) k c = refl
    across (Word m a) k c = absurd k
    across (Pick b i from w) k c = rw (header_form scope signals funs files call b k.0, header_form scope signals funs files call i k.1, across b k.0 (form scope.names b), across i k.1 (form scope.names i)) refl
    across (Slice b low w) k c = rw (header_form scope signals funs files call b k, across b k (form scope.names b)) refl
    across (Un op a) k c = rw (header_form scope signals funs files call a k, across a k _) refl
    across (Bin op a b) k c = rw (header_form scope signals funs files call a k.0, header_form scope signals funs files call b k.1, across a k.0 _, across b k.1 _) refl
    across (Cond u a b) k c = rw (header_form scope signals funs files call u k.0, across u k.0 (form scope.names u), across a k.1 c, across b k.2 c) refl
    across (Cat es) k c = absurd k
    across (Rep n es) k c = absurd k
    across (Cast signed a) k c = rw (header_form scope signals funs files call a k, across a k (form scope.names a)) refl
    across (Call f es) k c = absurd k
    across Time k c = absurd k
    across LastAnswer k c = absurd k

  pub test_across : (e : Exp) → IsHeader scope.names.rows e → (x : State) → goes_on new e x ≡ goes_on scope e x
  test_across e k x = rw (header_form scope signals funs files call e k, across (sample x) e k (form scope.names e)) refl

  pub step_across : (j : ℕ) (a : Stm) → Assigns scope.names.rows j a → (x : State) → exec new a x ≡ exec scope a x
  step_across j a k x = rw (k.whole, header_form scope signals funs files call k.source k.header, across (sample x) k.source k.header _) refl

  mutual
    pub text_same : (a : Stm) → HasLoops scope.names.rows a → (e : State) → unrolled new a e ≡ unrolled scope a e
    text_same Nop l e = refl
    text_same (Then a b) l e = rw (text_same a l.0 e, text_same b l.1 e) refl
    text_same (If u a b) l e = rw (text_same a l.0 e, text_same b l.1 e) refl
    text_same (Case u items) l e = rw (items_text items l e) refl
    text_same (For j start test step a) l e =
        turns_alike most_turns (goes_on new test) (goes_on scope test) (exec new step) (exec scope step) (unrolled new a) (unrolled scope a)
        (test_across test l.2) (step_across j step l.3) (text_same a l.4) (exec new start e)
        ∙ ap (in_turns most_turns (goes_on scope test) (exec scope step) (unrolled scope a)) (step_across j start l.1 e)
    text_same (Repeat n a) l e = ap (so_many n) (text_same a l e)
    text_same (Set u x) l e = refl
    text_same (Later u x) l e = refl
    text_same (Sys task) l e = refl

    items_text : (items : Items) → HaveLoops scope.names.rows items → (e : State) → unrolled_items new items e ≡ unrolled_items scope items e
    items_text NoItems l e = refl
    items_text (Labelled es a others) l e = rw (text_same a l.0 e, items_text others l.1 e) refl
    items_text (Default a others) l e = rw (text_same a l.0 e, items_text others l.1 e) refl
