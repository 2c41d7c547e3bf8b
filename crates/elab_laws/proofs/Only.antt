-- A statement keeps its form where only what it writes, and memories, may be assigned.
use Rattle.std.proofs.Common.{◌≡◌, ℕ, Bool, true, false, true≢false, if◌then◌else◌, ⊎_elim, inl, List, Option, Some, None, refl, sym, ap, ◌∙◌, subst}
use Rattle.std.specs.Prelude.{◌||◌}
use Rattle.std.specs.Str.{bytes_eq}
use Rattle.std.proofs.lemmas.Bool.{or_left, or_right}
use Rattle.std.proofs.lemmas.Slice.Eq.{bytes_eq-Decides}
use Rattle.vl_sound.specs.vl_tree.specs.declared.tree.UnaryOperator.TheVariants.{LogicalNot}
use Rattle.vl_sound.specs.vl_scope.specs.declared.kind.Class.{Class}
use Rattle.vl_sound.specs.vl_scope.specs.declared.kind.Class.TheVariants as c
use Rattle.vl_sound.specs.vl_flat.specs.Surface as x
use Rattle.vl_sound.specs.vl_flat.specs.Uses.{left_writes, lefts_write, first_is, writes, some_write, items_write}
use Rattle.vl_sound.specs.Used.{Classes, IsMemoryName, IsLoad}
use Rattle.elab_laws.proofs.Leaves.{is_fill, IsStored, IsFilled, IsTask, IsSide, IsTest, IsLeft, AreLefts, IsBody, AreBodies, HaveBodies}

-- what is a memory, or is told
abbrev pub masked : Bool → Option Class → Option Class
masked true o = o
masked false (Some c.Memory) = Some c.Memory
masked false o = None

-- memories, and what the names are that pass the test
abbrev pub only : (List ℕ → Bool) → Classes → Classes
only w k = record { read = λ t. masked (w t) (k.read t); called = k.called }

same-text : (t : List ℕ) → bytes_eq t t ≡ true
same-text t = (bytes_eq-Decides t t).1 refl

module _ (w : List ℕ → Bool) (k : Classes) where
  abbrev k' : Classes
  k' = only w k

  -- each name that a test passes is told
  abbrev Told : (List ℕ → Bool) → Type 0
  Told test = (t : List ℕ) → test t ≡ true → w t ≡ true

  told-left : (f g : List ℕ → Bool) → Told (λ t. f t || g t) → Told f
  told-left f g h = λ t q. h t (or_left (f t) (g t) q)

  told-right : (f g : List ℕ → Bool) → Told (λ t. f t || g t) → Told g
  told-right f g h = λ t q. h t (or_right (f t) (g t) q)

  stored-only : (b : Bool) (o : Option Class) → b ≡ true → IsStored o → IsStored (masked b o)
  stored-only true o h v = v
  stored-only false o h v = absurd (true≢false (sym h))

  memory-only : (b : Bool) (o : Option Class) → o ≡ Some c.Memory → masked b o ≡ Some c.Memory
  memory-only true o h = h
  memory-only false o h = subst (λ z. masked false z ≡ Some c.Memory) (sym h) refl

  variable-only : (b : Bool) (o : Option Class) → b ≡ true → o ≡ Some c.Variable → masked b o ≡ Some c.Variable
  variable-only true o h v = v
  variable-only false o h v = absurd (true≢false (sym h))

  -- ---- right sides

  side-only : (a : x.Ex) → IsSide k false a → IsSide k' false a
  side-only (x.System at name given) v = (⊎_elim (λ h. inl h) (λ h. absurd (true≢false (sym h.timely))) v.0, v.1)
  side-only (x.Paren at a) v = side-only a v
  side-only a v = v

  test-only : (a : x.Ex) → IsTest k false a → IsTest k' false a
  test-only (x.Unary at LogicalNot a) v = side-only a v
  test-only (x.Paren at a) v = test-only a v
  test-only a v = side-only a v

  -- ---- left sides

  mutual
    left-only : (l : x.Left) → Told (λ t. left_writes t l) → IsLeft k false l → IsLeft k' false l
    left-only (x.LeftName at n ss) g v = (stored-only (w n) (k.read n) (g n (same-text n)) v.0, v.1)
    left-only (x.LeftList at ls) g v = lefts-only ls g v

    lefts-only : (ls : x.Lefts) → Told (λ t. lefts_write t ls) → AreLefts k false ls → AreLefts k' false ls
    lefts-only x.NoLefts g v = tt
    lefts-only (x.MoreLefts l ls) g v = (
      left-only l (told-left (λ t. left_writes t l) (λ t. lefts_write t ls) g) v.0,
      lefts-only ls (told-right (λ t. left_writes t l) (λ t. lefts_write t ls) g) v.1,
    )

  -- ---- system tasks

  memory-name : (a : x.Ex) → IsMemoryName k a → IsMemoryName k' a
  memory-name (x.Named q n x.NoSelects) h = memory-only (w n) (k.read n) h
  memory-name a h = absurd h

  load-only : (given : x.Args) → IsLoad k given → IsLoad k' given
  load-only (x.MoreArgs (x.Text at text) (x.MoreArgs a x.NoArgs)) h = memory-name a h
  load-only given h = absurd h

  filled-only : (given : x.Args) → Told (λ t. first_is t given) → IsFilled k given → IsFilled k' given
  filled-only (x.MoreArgs (x.Named at n x.NoSelects) others) g h = variable-only (w n) (k.read n) (g n (same-text n)) h
  filled-only given g h = absurd h

  task-only : (name : List ℕ) (given : x.Args) → Told (λ t. if is_fill name then first_is t given else false) → IsTask k false name given → IsTask k' false name given
  task-only name given g h = record {
    loaded = λ q. load-only given (h.loaded q);
    filled = λ q. filled-only given (λ t r. g t (ap (λ z. if z then first_is t given else false) q ∙ r)) (h.filled q);
    read = h.read;
    saves = h.saves;
  }

  -- ---- statements

  mutual
    pub body-only : (a : x.Statement) → Told (λ t. writes t a) → IsBody k false a → IsBody k' false a
    body-only (x.Null at) g v = tt
    body-only (x.Block at as') g v = bodies-only as' g v
    body-only (x.If at y a d) g v = (
      test-only y v.0,
      body-only a (told-left (λ t. writes t a) (λ t. writes t d) g) v.1,
      body-only d (told-right (λ t. writes t a) (λ t. writes t d) g) v.2,
    )
    body-only (x.Case at wild y items) g v = (v.0, items-only items g v.1)
    body-only (x.For at l a y l' a' body) g v =
        let more = told-right (λ t. left_writes t l) (λ t. left_writes t l' || writes t body) g in (
          left-only l (told-left (λ t. left_writes t l) (λ t. left_writes t l' || writes t body) g) v.0,
          side-only a v.1,
          v.2,
          left-only l' (told-left (λ t. left_writes t l') (λ t. writes t body) more) v.3,
          side-only a' v.4,
          body-only body (told-right (λ t. left_writes t l') (λ t. writes t body) more) v.5,
        )
    body-only (x.Repeat at count a) g v = body-only a g v
    body-only (x.Assign at blocking l a) g v = (left-only l g v.0, side-only a v.1)
    body-only (x.Task at name given) g v = task-only name given g v

    bodies-only : (as' : x.Statements) → Told (λ t. some_write t as') → AreBodies k false as' → AreBodies k' false as'
    bodies-only x.NoStatements g v = tt
    bodies-only (x.MoreStatements a as') g v = (
      body-only a (told-left (λ t. writes t a) (λ t. some_write t as') g) v.0,
      bodies-only as' (told-right (λ t. writes t a) (λ t. some_write t as') g) v.1,
    )

    items-only : (items : x.CaseItems) → Told (λ t. items_write t items) → HaveBodies k false items → HaveBodies k' false items
    items-only x.NoItems g v = tt
    items-only (x.Labelled es a others) g v = (
      v.0,
      body-only a (told-left (λ t. writes t a) (λ t. items_write t others) g) v.1,
      items-only others (told-right (λ t. writes t a) (λ t. items_write t others) g) v.2,
    )
    items-only (x.Default a others) g v = (
      body-only a (told-left (λ t. writes t a) (λ t. items_write t others) g) v.0,
      items-only others (told-right (λ t. writes t a) (λ t. items_write t others) g) v.1,
    )
