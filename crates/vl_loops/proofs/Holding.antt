-- A statement with its loops unrolled holds a call where the statement does.
use Rattle.std.proofs.Common.{◌≡◌, ℕ, zero, suc, Bool, true, false, List, refl, sym, ap, ◌∙◌}
use Prim.Native.Nat.compare
use Rattle.std.specs.Prelude.{◌||◌, ◌&&◌, ◌==◌, not}
use Rattle.vl_design.specs.Syntax.{Exp, Num, Label, Sig, Word, Pick, Slice, Un, Bin, Cond, Cat, Rep, Cast, Call, Time, LastAnswer, Stm, Nop, Then, If, Case, For, Repeat, Set, Later, Sys, Items, NoItems, Labelled, Default, Row}
use Rattle.vl_design.specs.Width.{Scope}
use Rattle.vl_design.specs.State.{State}
use Rattle.vl_design.specs.Exec.{exec, asks, goes_on, holds, items_hold, some_turn, most_turns}
use Rattle.vl_loops.specs.Unroll.{is_loop, signal_put, put, unrolled, unrolled_items, in_turns, so_many}
use Rattle.vl_loops.specs.Fits.{IsHeader, Assigns, HasLoops, HaveLoops, Holds}
use Rattle.vl_loops.proofs.Heading.{goes_same, header_alive, header_holds}

module _ (rows : List Row) (at : List (List ℕ)) where
  asks_signal : (b : Bool) (j : ℕ) → asks (signal_put rows at b j) ≡ false
  asks_signal true j = refl
  asks_signal false j = refl

  pub asks_put : (e : Exp) → asks (put rows at e) ≡ asks e
  asks_put (Num v w s) = refl
  asks_put (Label v care w s) = refl
  asks_put (Sig j) = asks_signal (is_loop rows j) j
  asks_put (Word m a) = refl
  asks_put (Pick b i from w) = refl
  asks_put (Slice b low w) = refl
  asks_put (Un op a) = asks_put a
  asks_put (Bin op a b) = refl
  asks_put (Cond t a b) = refl
  asks_put (Cat es) = refl
  asks_put (Rep n es) = refl
  asks_put (Cast s a) = refl
  asks_put (Call f es) = refl
  asks_put Time = refl
  asks_put LastAnswer = refl

pub twice : (h b : Bool) → (h || (b && h)) ≡ h
twice true b = refl
twice false true = refl
twice false false = refl

pub some_turns : (n : ℕ) (h : Bool) → (not (suc n == 0) && h) ≡ h
some_turns n h = rw compare.suc-zero refl

module _ (scope next : Scope) where
  many_hold : (n : ℕ) (b : Stm) (t : State) → holds next t (so_many n b) ≡ (not (n == 0) && holds next t b)
  many_hold zero b t = refl
  many_hold (suc n) b t = ap (λ z. holds next t b || z) (many_hold n b t) ∙ (twice (holds next t b) (not (n == 0)) ∙ sym (some_turns n (holds next t b)))

  module _ (j : ℕ) (test : Exp) (step a : Stm) (k : IsHeader scope.names.rows test) (l : Assigns scope.names.rows j step)
      (body : (e s t : State) → Holds scope.names.rows e s → s.finished ≡ false → holds next t (unrolled scope a e) ≡ holds scope s a) where
    turns_hold : (n : ℕ) (x s t : State) → Holds scope.names.rows x s → s.finished ≡ false →
        holds next t (in_turns n (goes_on scope test) (exec scope step) (unrolled scope a) x) ≡ some_turn n (goes_on scope test) (exec scope step) (λ z. holds scope z a) s
    turns_hold zero x s t h f = refl
    turns_hold (suc n) x s t h f =
        (at (goes_on scope test x) (goes_on scope test s) (goes_same scope x s h f test k) (body x s t h f) (turns_hold n (exec scope step x) (exec scope step s) t (header_holds scope j step l x s f h) (header_alive scope j step l s f)))
      where
        at : (b c : Bool) → c ≡ b → holds next t (unrolled scope a x) ≡ holds scope s a →
            holds next t (in_turns n (goes_on scope test) (exec scope step) (unrolled scope a) (exec scope step x)) ≡ some_turn n (goes_on scope test) (exec scope step) (λ z. holds scope z a) (exec scope step s) →
            holds next t (elim b [ true ↦ Then (unrolled scope a x) (in_turns n (goes_on scope test) (exec scope step) (unrolled scope a) (exec scope step x)) | false ↦ Nop ])
            ≡ (elim c [ true ↦ (holds scope s a || some_turn n (goes_on scope test) (exec scope step) (λ z. holds scope z a) (exec scope step s)) | false ↦ false ])
        at true true e f g = rw (f, g) refl
        at false false e f g = refl
        at true false e f g = let z : ⊥ = cc in absurd z
        at false true e f g = let z : ⊥ = cc in absurd z

  mutual
    pub holds_same : (a : Stm) → HasLoops scope.names.rows a → (e s t : State) → Holds scope.names.rows e s → s.finished ≡ false → holds next t (unrolled scope a e) ≡ holds scope s a
    holds_same Nop k e s t h f = refl
    holds_same (Then a b) k e s t h f = rw (holds_same a k.0 e s t h f, holds_same b k.1 e s t h f) refl
    holds_same (If u a b) k e s t h f = rw (asks_put scope.names.rows e.values u, holds_same a k.0 e s t h f, holds_same b k.1 e s t h f) refl
    holds_same (Case u items) k e s t h f = items_same items k e s t h f
    holds_same (For j start test step a) k e s t h f =
        turns_hold j test step a k.2 k.3 (holds_same a k.4) most_turns (exec scope start e) (exec scope start s) t (header_holds scope j start k.1 e s f h) (header_alive scope j start k.1 s f)
    holds_same (Repeat n a) k e s t h f = many_hold n (unrolled scope a e) t ∙ ap (λ z. not (n == 0) && z) (holds_same a k e s t h f)
    holds_same (Set u x) k e s t h f = refl
    holds_same (Later u x) k e s t h f = refl
    holds_same (Sys task) k e s t h f = refl

    pub items_same : (items : Items) → HaveLoops scope.names.rows items → (e s t : State) → Holds scope.names.rows e s → s.finished ≡ false → items_hold next t (unrolled_items scope items e) ≡ items_hold scope s items
    items_same NoItems k e s t h f = refl
    items_same (Labelled es a others) k e s t h f = rw (holds_same a k.0 e s t h f, items_same others k.1 e s t h f) refl
    items_same (Default a others) k e s t h f = rw (holds_same a k.0 e s t h f, items_same others k.1 e s t h f) refl
