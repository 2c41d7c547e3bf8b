-- Items: what is read follows the grammar.
use Rattle.std.proofs.Common.{◌≡◌, ℕ, List, ◌∷◌, Option, Some, None, Bool, true, false, cond, refl, ap, subst, arith, ◌∙◌}
use Rattle.std.specs.Prelude.{codes}
use Rattle.std.specs.Str.{bytes_eq}
use Rattle.std.proofs.lemmas.Slice.Eq.{bytes_eq-Decides}
use Rattle.vl_tree.specs.declared.token.Token.{Token}
use Rattle.vl_tree.specs.declared.token.TokenKind.{TokenKind}
use Rattle.vl_tree.specs.declared.token.TokenKind.TheVariants as k
use Rattle.vl_tree.specs.MarksOfGrammar.{IsKeyword}
use Rattle.vl_tree.proofs.MarkLemmas.{mark_some}
use Rattle.vl_tree.specs.declared.source_tree.Item.{Item}
use Rattle.vl_tree.specs.declared.source_tree.Item.TheVariants as i
use Rattle.vl_tree.specs.declared.source_tree.PortDeclaration.{PortDeclaration}
use Rattle.vl_tree.specs.declared.source_tree.Direction.TheVariants as d
use Rattle.vl_tree.specs.declared.source_tree.ParameterKeyword.{ParameterKeyword}
use Rattle.vl_tree.specs.declared.source_tree.ParameterKeyword.TheVariants as w
use Rattle.vl_tree.specs.Bounds.{most_statements}
use Rattle.vl_tree.specs.Lists.{ReadsOptional, ReadsMany, ReadsList, ReadsWord}
use Rattle.vl_tree.specs.Statements.{ReadsAssignment, ReadsStatement}
use Rattle.vl_tree.specs.GrammarOfSource.{ReadsRange, ReadsParameterType, ReadsParameterAssignment, ReadsDeclarationAssignment, ReadsVariableType, IsDirection, ReadsFunction, ReadsInstance, ReadsTrigger, IsParameterKeyword, ReadsItem}
use Rattle.vl_tree.specs.Parsers.{Parser, list, many}
use Rattle.vl_tree.specs.Parsing.{whole, target, outer, assignment, optional_range, parameter_type, parameter_assignment, declaration_assignment, variable_type, port_names, function, trigger, instance, port_item, parameter_item, wire_item, reg_item, integer_item, assign_item, initial_item, always_item, function_item, item_by_keyword, instance_item, item_by_kind, item_by}
use Rattle.vl_tree.proofs.FollowsOfSource.{Relation, Follows, follows_weaker, follows_pure, follows_bind, follows_mark}
use Rattle.vl_tree.proofs.FollowsLists.{follows_word, follows_list, follows_each}
use Rattle.vl_tree.proofs.Completing.{ReadsGrown}
use Rattle.vl_tree.proofs.Lvalues.{follows_whole, follows_target}
use Rattle.vl_tree.proofs.StatementsFollow.{follows_assignment, follows_statement}
use Rattle.vl_tree.proofs.Declarations.{follows_optional_range, follows_parameter_type, follows_parameter_assignment, follows_declaration_assignment, follows_variable_type}
use Rattle.vl_tree.proofs.Ports.{PortGrows, PortBehind, grown_port, follows_net_head, follows_output_head, follows_port_names}
use Rattle.vl_tree.proofs.Processes.{follows_trigger}
use Rattle.vl_tree.proofs.Instances.{follows_instance}
use Rattle.vl_tree.proofs.Functions.{follows_function}
pub use Rattle.vl_tree.proofs.Functions.{follows_outer}

module _ (n : ℕ) where
  -- behind the first token of an item
  abbrev pub ItemBehind : Token → Relation Item
  ItemBehind v b a ts rest = ReadsItem b a (v ∷ ts) rest

  follows_port_item : (v : Token) (head : Parser PortDeclaration) → Follows (PortBehind v) head → Follows (ItemBehind v) (port_item (whole n) (target n) n (outer n) v.place head)
  unfolding port_item
  follows_port_item v head l = follows_weaker (λ b a ts rest (h, us, q, (g, vs, f, (x, ws, p, e, j, (o, z)))). rw o (ReadsItem.port_item (grown_port b q (rw (e, z) at f)) (mark_some (codes ";") x p j).0))
      (follows_bind (PortBehind v) _ head _ l (λ h. follows_bind (λ b. ReadsGrown (λ x. PortGrows x b) h) _ (port_names (whole n) (target n) n n h) _ (follows_port_names n n h) (λ a. follows_mark (codes ";") _ _ refl (follows_pure (i.Port a)))))

  follows_parameter_item : (kind : ParameterKeyword) (v : Token) → IsParameterKeyword kind v → Follows (ItemBehind v) (parameter_item (whole n) (target n) n (outer n) kind v.place)
  unfolding parameter_item
  follows_parameter_item kind v h = follows_weaker (λ b a ts rest (t, us, q, (es, vs, f, (x, ws, p, e, j, (o, z)))). rw o (ReadsItem.parameter_item h q (rw (e, z) at f) (mark_some (codes ";") x p j).0))
      (follows_bind ReadsParameterType _ (parameter_type (whole n) (target n) n) _ (follows_parameter_type n) (λ t. follows_bind (λ b. ReadsList (ReadsParameterAssignment b)) _ (list (parameter_assignment (whole n) (target n) n) n) _
      (follows_list ReadsParameterAssignment (parameter_assignment (whole n) (target n) n) (follows_parameter_assignment n) n) (λ es. follows_mark (codes ";") _ _ refl (follows_pure (i.Parameter v.place kind t es)))))

  follows_wire_item : (v : Token) → IsKeyword (codes "wire") v → Follows (ItemBehind v) (wire_item (whole n) (target n) n (outer n) v.place)
  unfolding wire_item
  follows_wire_item v h = follows_weaker (λ b a ts rest (t, us, q, (r, vs, g, (es, ws, f, (x, xs, p, e, j, (o, z))))). rw o (ReadsItem.wire_item h q g (rw (e, z) at f) (mark_some (codes ";") x p j).0))
      (follows_bind (λ _. ReadsWord (codes "signed")) _ _ _ (follows_word (codes "signed")) (λ t. follows_bind (λ b. ReadsOptional (ReadsRange b)) _ (optional_range (whole n) (target n) n) _ (follows_optional_range n)
      (λ r. follows_bind (λ b. ReadsList (ReadsDeclarationAssignment b)) _ (list (declaration_assignment (whole n) (target n) n) n) _ (follows_list ReadsDeclarationAssignment (declaration_assignment (whole n) (target n) n) (follows_declaration_assignment n) n)
      (λ es. follows_mark (codes ";") _ _ refl (follows_pure (i.Wire v.place t r es))))))

  follows_reg_item : (v : Token) → IsKeyword (codes "reg") v → Follows (ItemBehind v) (reg_item (whole n) (target n) n (outer n) v.place)
  unfolding reg_item
  follows_reg_item v h = follows_weaker (λ b a ts rest (t, us, q, (r, vs, g, (es, ws, f, (x, xs, p, e, j, (o, z))))). rw o (ReadsItem.reg_item h q g (rw (e, z) at f) (mark_some (codes ";") x p j).0))
      (follows_bind (λ _. ReadsWord (codes "signed")) _ _ _ (follows_word (codes "signed")) (λ t. follows_bind (λ b. ReadsOptional (ReadsRange b)) _ (optional_range (whole n) (target n) n) _ (follows_optional_range n)
      (λ r. follows_bind (λ b. ReadsList (ReadsVariableType b)) _ (list (variable_type (whole n) (target n) n) n) _ (follows_list ReadsVariableType (variable_type (whole n) (target n) n) (follows_variable_type n) n)
      (λ es. follows_mark (codes ";") _ _ refl (follows_pure (i.Reg v.place t r es))))))

  follows_integer_item : (v : Token) → IsKeyword (codes "integer") v → Follows (ItemBehind v) (integer_item (whole n) (target n) n (outer n) v.place)
  unfolding integer_item
  follows_integer_item v h = follows_weaker (λ b a ts rest (es, ws, f, (x, xs, p, e, j, (o, z))). rw o (ReadsItem.integer_item h (rw (e, z) at f) (mark_some (codes ";") x p j).0))
      (follows_bind (λ b. ReadsList (ReadsVariableType b)) _ (list (variable_type (whole n) (target n) n) n) _ (follows_list ReadsVariableType (variable_type (whole n) (target n) n) (follows_variable_type n) n)
      (λ es. follows_mark (codes ";") _ _ refl (follows_pure (i.Integer v.place es))))

  follows_assign_item : (v : Token) → IsKeyword (codes "assign") v → Follows (ItemBehind v) (assign_item (whole n) (target n) n (outer n) v.place)
  unfolding assign_item
  follows_assign_item v h = follows_weaker (λ b a ts rest (es, ws, f, (x, xs, p, e, j, (o, z))). rw o (ReadsItem.assign_item h (rw (e, z) at f) (mark_some (codes ";") x p j).0))
      (follows_bind (λ b. ReadsList (ReadsAssignment b)) _ (list (assignment (whole n) (target n) n) n) _ (follows_list ReadsAssignment (assignment (whole n) (target n) n) (follows_assignment (whole n) (target n) n (follows_whole n) (follows_target n)) n)
      (λ es. follows_mark (codes ";") _ _ refl (follows_pure (i.Assign v.place es))))

  follows_initial_item : (v : Token) → IsKeyword (codes "initial") v → Follows (ItemBehind v) (initial_item (whole n) (target n) n (outer n) v.place)
  unfolding initial_item
  follows_initial_item v h = follows_weaker (λ b a ts rest (x, us, q, (o, z)). rw o (ReadsItem.initial_item h (rw z at q))) (follows_bind (λ b. ReadsStatement b 0) _ (outer n) _ (follows_outer n) (λ x. follows_pure (i.Initial v.place x)))

  follows_always_item : (v : Token) → IsKeyword (codes "always") v → Follows (ItemBehind v) (always_item (whole n) (target n) n (outer n) v.place)
  unfolding always_item
  follows_always_item v h = follows_weaker (λ b a ts rest (x, us, p, e, j, (t, vs, f, (y, ws, q, (o, z)))). rw (e, o) (ReadsItem.always_item h (mark_some (codes "@") x p j).0 f (rw z at q)))
      (follows_mark (codes "@") _ _ refl (follows_bind (λ _. ReadsTrigger) _ (trigger (whole n) (target n) n) _ (follows_trigger (whole n) (target n) n) (λ t. follows_bind (λ b. ReadsStatement b 0) _ (outer n) _ (follows_outer n) (λ x. follows_pure (i.Always v.place t x)))))

  follows_function_item : (v : Token) → IsKeyword (codes "function") v → Follows (ItemBehind v) (function_item (whole n) (target n) n (outer n) v.place)
  unfolding function_item
  follows_function_item v h = follows_weaker (λ b a ts rest (x, us, q, (o, z)). rw o (ReadsItem.function_item (rw z at q))) (follows_bind (λ b a ts rest. ReadsFunction b a (v ∷ ts) rest) _ (function (whole n) (target n) n (outer n) v.place) _ (follows_function n v h) (λ x. follows_pure (i.Function x)))

  follows_instance_item : (v : Token) (name : List ℕ) → v.kind ≡ k.Name name → Follows (ItemBehind v) (instance_item (whole n) (target n) n (outer n) v.place name)
  unfolding instance_item
  follows_instance_item v name h = follows_weaker (λ b a ts rest (x, us, q, (o, z)). rw o (ReadsItem.instance_item (rw z at q)))
      (follows_bind (λ b a ts rest. ReadsInstance b a (v ∷ ts) rest) _ (instance (whole n) (target n) n (record { place = v.place; name = name })) _ (follows_instance (whole n) (target n) n (follows_whole n) v name h) (λ x. follows_pure (i.Instance x)))

  -- the item by this word, or what a choice among the others gives
  either_item : (v : Token) (m name : List ℕ) (p : Parser Item) (others : Option (Parser Item)) (q : Parser Item) → IsKeyword name v → (IsKeyword m v → Follows (ItemBehind v) p) → (others ≡ Some q → Follows (ItemBehind v) q) → cond (bytes_eq name m) (Some p) others ≡ Some q → Follows (ItemBehind v) q
  either_item v m name p others q h l r e = go (bytes_eq name m) refl e
    where
      go : (b : Bool) → bytes_eq name m ≡ b → cond b (Some p) others ≡ Some q → Follows (ItemBehind v) q
      go true g f = let z : p ≡ q = cc in subst (λ x. Follows (ItemBehind v) x) z (l (h ∙ ap k.Keyword ((bytes_eq-Decides name m).0 g)))
      go false g f = r f

  by_word : (v : Token) (name : List ℕ) → IsKeyword name v → (q : Parser Item) → item_by_keyword (whole n) (target n) n (outer n) v.place name ≡ Some q → Follows (ItemBehind v) q
  by_word v name h q e =
      either_item v (codes "input") name _ _ q h (λ g. follows_port_item v _ (follows_net_head n v v.place d.Input (IsDirection.input g) refl))
      (either_item v (codes "output") name _ _ q h (λ g. follows_port_item v _ (follows_output_head n v v.place g refl))
      (either_item v (codes "parameter") name _ _ q h (λ g. follows_parameter_item w.Parameter v (IsParameterKeyword.parameter_word g))
      (either_item v (codes "localparam") name _ _ q h (λ g. follows_parameter_item w.Local v (IsParameterKeyword.local_word g))
      (either_item v (codes "wire") name _ _ q h (λ g. follows_wire_item v g)
      (either_item v (codes "reg") name _ _ q h (λ g. follows_reg_item v g)
      (either_item v (codes "integer") name _ _ q h (λ g. follows_integer_item v g)
      (either_item v (codes "assign") name _ _ q h (λ g. follows_assign_item v g)
      (either_item v (codes "initial") name _ _ q h (λ g. follows_initial_item v g)
      (either_item v (codes "always") name _ _ q h (λ g. follows_always_item v g)
      (either_item v (codes "function") name _ None q h (λ g. follows_function_item v g) (λ f. let z : ⊥ = cc in absurd z))))))))))) e

  by_kind : (v : Token) (kind : TokenKind) → v.kind ≡ kind → (q : Parser Item) → item_by_kind (whole n) (target n) n (outer n) v.place kind ≡ Some q → Follows (ItemBehind v) q
  by_kind v (k.Name name) h q e = let z : instance_item (whole n) (target n) n (outer n) v.place name ≡ q = cc in subst (λ x. Follows (ItemBehind v) x) z (follows_instance_item v name h)
  by_kind v (k.Keyword name) h q e = by_word v name h q e
  by_kind v (k.Mark name) h q e = let z : ⊥ = cc in absurd z
  by_kind v (k.System name) h q e = let z : ⊥ = cc in absurd z
  by_kind v (k.Number name) h q e = let z : ⊥ = cc in absurd z
  by_kind v (k.Str name) h q e = let z : ⊥ = cc in absurd z

  follows_item_by : (v : Token) (q : Parser Item) → item_by (whole n) (target n) n (outer n) v ≡ Some q → Follows (ItemBehind v) q
  unfolding item_by
  follows_item_by v q e = by_kind v v.kind refl q e

  -- { item }
  pub follows_items : Follows (λ b. ReadsMany (ReadsItem b)) (many (item_by (whole n) (target n) n (outer n)) (λ q. q) n)
  follows_items = follows_each (item_by (whole n) (target n) n (outer n)) (λ v _. ItemBehind v) ReadsItem (λ q. q) (λ v q h. follows_item_by v q h) (λ b v q a ts rest h f. f) n
