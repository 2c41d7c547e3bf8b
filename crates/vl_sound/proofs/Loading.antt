-- Calls of system tasks that load memories, and the primaries that whole expressions are.
use Rattle.std.proofs.Common.{◌≡◌, ℕ, Bool, true, false, true≢false, if◌then◌else◌, ⊎_elim, List, [], ◌∷◌, Option, Some, None, refl, sym, ap, ◌∙◌, subst}
use Rattle.std.specs.Prelude.{⊤, ◌&&◌, ◌||◌, is_some, codes}
use Rattle.std.specs.Str.{bytes_eq}
use Rattle.std.proofs.lemmas.Bool.{and_parts, or_cases, or_left, or_right}
use Rattle.vl_flat.specs.vl_base.specs.declared.place.Place.{Place}
use Rattle.vl_flat.specs.vl_tree.specs.declared.tree.Identifier.{Identifier}
use Rattle.vl_flat.specs.vl_tree.specs.declared.tree.Expression.{Expression, out-Expression}
use Rattle.vl_flat.specs.vl_tree.specs.declared.tree.Choice.{Choice}
use Rattle.vl_flat.specs.vl_tree.specs.declared.tree.Binary.{out-Binary}
use Rattle.vl_flat.specs.vl_tree.specs.declared.tree.Link.{Link}
use Rattle.vl_flat.specs.vl_tree.specs.declared.tree.Unary.{Unary, out-Unary}
use Rattle.vl_flat.specs.vl_tree.specs.declared.tree.UnaryMark.{UnaryMark}
use Rattle.vl_flat.specs.vl_tree.specs.declared.tree.Primary as p
use Rattle.vl_flat.specs.vl_tree.specs.declared.tree.Primary.{Primary}
use Rattle.vl_flat.specs.vl_tree.specs.declared.tree.Name.{Name, out-Name}
use Rattle.vl_flat.specs.vl_tree.specs.declared.tree.Select.{Select}
use Rattle.vl_flat.specs.vl_tree.specs.declared.tree.SystemCall.{SystemCall, out-SystemCall}
use Rattle.vl_flat.specs.vl_tree.specs.declared.tree.SystemArgument.{SystemArgument, out-SystemArgument}
use Rattle.vl_names.specs.vl_scope.specs.declared.kind.Class.{Class}
use Rattle.vl_names.specs.vl_scope.specs.declared.kind.Class.TheVariants as c
use Rattle.vl_names.specs.vl_scope.specs.declared.kind.Kind.{Kind}
use Rattle.vl_names.specs.vl_scope.proofs.Listed.{bytes_eq-to}
use Rattle.vl_names.specs.vl_uses.specs.declared.setting.Usage.{Usage}
use Rattle.vl_names.specs.vl_uses.specs.declared.setting.Usage.TheVariants.{Task, Whole, Operand}
use Rattle.vl_names.specs.vl_uses.specs.Alone as s
use Rattle.vl_names.specs.vl_uses.specs.Calls as l
use Rattle.vl_names.specs.vl_uses.specs.Nodes.{is_load}
use Rattle.vl_flat.specs.Surface as x
use Rattle.vl_flat.specs.Binding as f
use Rattle.vl_sound.specs.Used.{Classes, IsMemoryName, IsLoad, ByTest, is_operand, is_on_files}
use Rattle.vl_sound.proofs.Sides.{Loads}
use Rattle.vl_sound.proofs.Opens.{unary, linked, chosen, selects_before, given, held, ex-opens, binary-opens, named-opens, argument-opens, system-opens}

-- ---- whole expressions

pub some-same : {A : Type 0} (y z : A) → ◌≡◌ {A = Option A} (Some y) (Some z) → y ≡ z
some-same y z h = cc

-- an expression that is an operand
pub operand-is : (v : Expression) (u : Unary) → s.operand_of v ≡ Some u → f.ex v ≡ unary u
operand-is v u h =
    let o = out-Expression v in
    let y = out-Binary o.binary in
    ex-opens v ∙ (ap (chosen o.choice o.place) (binary-opens o.binary) ∙ by o.choice o.place y.links y.first h)
  where
    by : (o : Option Choice) (at : Place) (links : List Link) (first : Unary) → s.operand_in o links first ≡ Some u → chosen o at (linked links (unary first)) ≡ unary u
    by None at [] first e = ap unary (some-same first u e)
    by None at (z ∷ links) first e = absurd cc
    by (Some two) at links first e = absurd cc

-- an expression that is a primary
pub sole-is : (v : Expression) (a : Primary) → s.sole v ≡ Some a → f.ex v ≡ f.primary a
sole-is v a h = by (s.operand_of v) refl h
  where
    marks : (ms : List UnaryMark) (y : Primary) → s.unmarked_in ms y ≡ Some a → f.marked ms (f.primary y) ≡ f.primary a
    marks [] y e = ap f.primary (some-same y a e)
    marks (m ∷ ms) y e = absurd cc

    by : (o : Option Unary) → s.operand_of v ≡ o → s.unmarked o ≡ Some a → f.ex v ≡ f.primary a
    by None e g = absurd cc
    by (Some u) e g = operand-is v u e ∙ marks (out-Unary u).operators (out-Unary u).primary g

-- ---- arguments

-- an argument that is a string
record IsText (o : Option Expression) (others : x.Args) : Type 0 where
  at : Place
  text : List ℕ
  is : held o others ≡ x.MoreArgs (x.Text at text) others

text-in : (o : Option Primary) → is_some (l.text_in o) ≡ true → (at : Place) × (text : List ℕ) × (o ≡ Some (p.Str at text))
text-in (Some (p.Str at text)) h = (at, text, refl)
text-in o h = absurd (true≢false (sym h))

text-held : (o : Option Expression) (others : x.Args) → is_some (l.text_in (l.sole_in o)) ≡ true → IsText o others
text-held None others h = absurd (true≢false (sym h))
text-held (Some e) others h =
    let q = text-in (s.sole e) h in
    record { at = q.0; text = q.1; is = ap (λ z. x.MoreArgs z others) (sole-is e (p.Str q.0 q.1) q.2) }

-- a bare name
record IsBare (o : Option Primary) : Type 0 where
  name : Name
  is : o ≡ Some (p.Name name)
  selects : (out-Name name).selects ≡ []

bare-name : (o : Option Primary) (i : Identifier) → s.bare_of o ≡ Some i → (r : IsBare o) × ((out-Name r.name).identifier ≡ i)
bare-name (Some (p.Name a)) i h = by (out-Name a).selects refl h
  where
    by : (ss : List Select) → (out-Name a).selects ≡ ss → s.bare_in (out-Name a).identifier ss ≡ Some i → (r : IsBare (Some (p.Name a))) × ((out-Name r.name).identifier ≡ i)
    by [] e g = (record { name = a; is = refl; selects = e }, some-same _ i g)
    by (z ∷ zs) e g = absurd cc
bare-name o i h = absurd cc

memory-class : (class : Class) → l.is_memory_class class ≡ true → class ≡ c.Memory
memory-class c.Memory h = refl
memory-class class h = absurd (true≢false (sym h))

module _ (means : List ℕ → Option Kind) (k : Classes) (known : (t : List ℕ) (kind : Kind) → means t ≡ Some kind → Some kind.class ≡ k.read t) where
  -- an argument that is a memory's name
  record IsMemory (o : Option Expression) (others : x.Args) : Type 0 where
    name : x.Ex
    memory : IsMemoryName k name
    is : held o others ≡ x.MoreArgs name others

  named-memory : (t : List ℕ) (o : Option Kind) → means t ≡ o → l.is_memory o ≡ true → k.read t ≡ Some c.Memory
  named-memory t None e h = absurd (true≢false (sym h))
  named-memory t (Some kind) e h = sym (known t kind e) ∙ ap (λ z. Some z) (memory-class kind.class h)

  memory-held : (o : Option Expression) (others : x.Args) → l.is_memory (l.bare_kind means (l.bare_in o)) ≡ true → IsMemory o others
  memory-held None others h = absurd (true≢false (sym h))
  memory-held (Some e) others h = by (s.bare e) refl h
    where
      by : (q : Option Identifier) → s.bare e ≡ q → l.is_memory (l.bare_kind means q) ≡ true → IsMemory (Some e) others
      by None b g = absurd (true≢false (sym g))
      by (Some i) b g =
          let r = bare-name (s.sole e) i b in
          let a = r.0.name in
          let o = out-Name a in
          let is : f.ex e ≡ x.Named o.place o.identifier.name x.NoSelects =
          sole-is e (p.Name a) r.0.is ∙ (named-opens a ∙ ap (λ z. x.Named o.place o.identifier.name (selects_before z x.NoSelects)) r.0.selects) in
          record {
            name = x.Named o.place o.identifier.name x.NoSelects;
            memory = ap (λ (z : Identifier). k.read z.name) r.1 ∙ named-memory i.name (means i.name) refl g;
            is = ap (λ z. x.MoreArgs z others) is;
          }

  two-load : (a b : SystemArgument) → (is_some (l.argument_text a) && l.is_memory (l.argument_kind means b)) ≡ true → IsLoad k (f.argument a (f.argument b x.NoArgs))
  two-load a b h =
      let q = and_parts (is_some (l.argument_text a)) (l.is_memory (l.argument_kind means b)) h in
      let others = f.argument b x.NoArgs in
      let first = text-held (out-SystemArgument a).argument others q.0 in
      let second = memory-held (out-SystemArgument b).argument x.NoArgs q.1 in
      subst (IsLoad k) (sym (argument-opens a others ∙ (first.is ∙ ap (λ z. x.MoreArgs (x.Text first.at first.text) z) (argument-opens b x.NoArgs ∙ second.is)))) second.memory

  memory-loads : (as' : Option (List SystemArgument)) → l.is_memory_load means as' ≡ true → IsLoad k (given as')
  memory-loads None h = absurd (true≢false (sym h))
  memory-loads (Some []) h = absurd (true≢false (sym h))
  memory-loads (Some (a ∷ [])) h = absurd (true≢false (sym h))
  memory-loads (Some (a ∷ b ∷ [])) h = two-load a b h
  memory-loads (Some (a ∷ b ∷ d ∷ others)) h = absurd (true≢false (sym h))

  by-test : (b : Bool) {A : Type 0} → (b ≡ true → A) → ByTest b A ⊤
  by-test true h = h refl
  by-test false h = tt

  -- ---- functions

  operand-named : (a b e : Bool) (y z : Bool) → (if a || b then y else if e then z else false) ≡ true → (a || (b || e)) ≡ true
  operand-named true b e y z h = refl
  operand-named false true e y z h = refl
  operand-named false false true y z h = refl
  operand-named false false false y z h = h

  files-named : (a b e g : Bool) (y z w : Bool) → (if a then y else if b then z else if e || g then w else false) ≡ true → (a || (b || (e || g))) ≡ true
  files-named true b e g y z w h = refl
  files-named false true e g y z w h = refl
  files-named false false true g y z w h = refl
  files-named false false false true y z w h = refl
  files-named false false false false y z w h = h

  operand-allowed : (timed : Bool) (name : List ℕ) (as' : Option (List SystemArgument)) → l.is_operand timed name as' ≡ true → is_operand name ≡ true
  operand-allowed timed name as' h = operand-named (bytes_eq name (codes "$signed")) (bytes_eq name (codes "$unsigned")) (bytes_eq name (codes "$time")) (l.is_one as') (timed && l.is_none as') h

  files-allowed : (name : List ℕ) (as' : Option (List SystemArgument)) → l.is_file_function means name as' ≡ true → is_on_files name ≡ true
  files-allowed name as' h =
      files-named (bytes_eq name (codes "$fopen")) (bytes_eq name (codes "$fread")) (bytes_eq name (codes "$fgetc")) (bytes_eq name (codes "$feof")) (l.is_open as') (l.is_read means as') (l.is_one as') h

  pub system-loads : (timed : Bool) (usage : Usage) (a : SystemCall) → l.is_allowed means timed usage (out-SystemCall a).name (out-SystemCall a).arguments ≡ true → Loads k usage (f.system a)
  system-loads timed usage a h = let o = out-SystemCall a in subst (Loads k usage) (sym (system-opens a)) (by usage o.name o.arguments h)
    where
      by : (usage : Usage) (name : List ℕ) (as' : Option (List SystemArgument)) → l.is_allowed means timed usage name as' ≡ true → Loads k usage (x.System (out-SystemCall a).place name (given as'))
      by Task name as' h = by-test (is_load name) (λ e. memory-loads as' (subst (λ z. l.is_task means z as' ≡ true) (sym (bytes_eq-to name (codes "$readmemh") e)) h))
      by Operand name as' h = operand-allowed timed name as' h
      by Whole name as' h =
          let either = or_cases (l.is_operand timed name as') (timed && l.is_file_function means name as') h in
          ⊎_elim (λ q. or_left (is_operand name) (is_on_files name) (operand-allowed timed name as' q))
          (λ q. or_right (is_operand name) (is_on_files name) (files-allowed name as' (and_parts timed (l.is_file_function means name as') q).1)) either
