-- Modules and sources: what is read follows the grammar, and what the grammar derives within bounds is read.
use Rattle.std.proofs.Common.{◌≡◌, ℕ, ◌+◌, ◌<◌, ◌≤◌, length, List, [], ◌∷◌, ◌++◌, Option, Some, None, Bool, true, false, refl, sym, ap, subst, arith, ◌∙◌}
use Rattle.std.specs.Prelude.{codes}
use Rattle.std.specs.Str.{bytes_eq}
use Rattle.vl_base.specs.declared.place.Place.{Place}
use Rattle.vl_tree.specs.declared.token.Token.{Token}
use Rattle.vl_tree.specs.MarksOfGrammar.{IsMark, IsKeyword}
use Rattle.vl_tree.specs.Reading.{next_by, is_next, mark, keyword}
use Rattle.vl_tree.proofs.MarkLemmas.{mark_here, mark_some}
use Rattle.vl_tree.proofs.Complete.{Ends, ends_before, none_here}
use Rattle.vl_tree.specs.declared.source_tree.Source.{Source}
use Rattle.vl_tree.specs.declared.source_tree.Module.{Module}
use Rattle.vl_tree.specs.declared.source_tree.ParameterGroup.{ParameterGroup}
use Rattle.vl_tree.specs.declared.source_tree.ParameterAssignment.{ParameterAssignment}
use Rattle.vl_tree.specs.declared.source_tree.ParameterType.{ParameterType}
use Rattle.vl_tree.specs.declared.source_tree.Ports.{Ports}
use Rattle.vl_tree.specs.Bounds.{Bounds}
use Rattle.vl_tree.specs.Lists.{ReadsOptional, ReadsMany, ReadsList, ReadsParenthesized, ReadsIdentifier}
use Rattle.vl_tree.specs.GrammarOfSource.{ReadsParameterType, ReadsParameterAssignment, ReadsParameterGroup, ReadsParameters, ReadsPort, ReadsPorts, ReadsItem, ReadsModule, ReadsSource}
use Rattle.vl_tree.specs.Parsers.{◌>>=◌, pure, must, is_word, identifier, parenthesized, many}
use Rattle.vl_tree.specs.Parsing.{whole, target, outer, parameter_type, parameter_assignment, group_of, group_head, group_grow, parameter_groups, module_ports, item_by_kind, item_by, module_of, parameters, optional_ports, definition, source_of, modules}
use Rattle.vl_tree.proofs.Words.{keyword_here, keyword_some}
use Rattle.vl_tree.proofs.FollowsOfSource.{Relation, Follows, Then, After, Nothing, bounds, follows_weaker, follows_pure, follows_bind, follows_mark, follows_keyword, follows_must, word_of, word_here, word_free}
use Rattle.vl_tree.proofs.FollowsLists.{ReadsGroups, follows_identifier, follows_optional, follows_closed, closed_parenthesized, follows_parenthesized, follows_each, follows_groups, list_of_groups, list_grows}
use Rattle.vl_tree.proofs.Completing.{Reads, ReadsGrown, Opens, read_now, reads_bind, reads_next, reads_optional, reads_parenthesized, reads_each, reads_groups, groups_of_list, identifier_reads, mark_next, mark_apart, keyword_next}
use Rattle.vl_tree.proofs.WholesComplete.{not_word}
use Rattle.vl_tree.proofs.PartsOfSource.{shorter_identifier, no_longer_optional, no_longer_many, shorter_list, shorter_parenthesized, named_no_word, grown_of_list}
use Rattle.vl_tree.proofs.Declarations.{follows_parameter_type, follows_parameter_assignment, no_longer_type, shorter_parameter, named_parameter, reads_parameter_type, reads_parameter_assignment}
use Rattle.vl_tree.proofs.Ports.{follows_module_ports, shorter_port, reads_module_ports}
use Rattle.vl_tree.proofs.ItemsFollow.{follows_items}
use Rattle.vl_tree.proofs.ItemsComplete.{shorter_item, reads_items}

-- ---- groups of parameters

-- h is g with one more parameter
abbrev pub GroupGrows : ParameterGroup → Relation ParameterGroup
GroupGrows g b h ts rest = (a : ParameterAssignment) × ReadsParameterAssignment b a ts rest × (h ≡ record { place = g.place; kind = g.kind; assignments = g.assignments ++ a ∷ [] })

grow_group : (b : Bounds) (g h : ParameterGroup) (comma : Token) (ts us vs : List Token) → ReadsParameterGroup b g ts (comma ∷ us) → IsMark (codes ",") comma → GroupGrows g b h us vs → ReadsParameterGroup b h ts vs
grow_group b g h comma ts us vs (ReadsParameterGroup.group w q ls) c (a, f, e) = rw e (ReadsParameterGroup.group w q (list_grows (ReadsParameterAssignment b) ls c f))

-- a group with its first parameter
pub data GroupHead (b : Bounds) : ParameterGroup → List Token → List Token → Type 0 where
  group_first : {kind : ParameterType} {a : ParameterAssignment} {word : Token} {ts us rest : List Token} → IsKeyword (codes "parameter") word → ReadsParameterType b kind ts us → ReadsParameterAssignment b a us rest
      → GroupHead b (record { place = word.place; kind = kind; assignments = a ∷ [] }) (word ∷ ts) rest

group_parts : (b : Bounds) (g : ParameterGroup) (ts rest : List Token) → ReadsParameterGroup b g ts rest → (h : ParameterGroup) × (us : List Token) × GroupHead b h ts us × ReadsGrown (λ x. GroupGrows x b) h g us rest
group_parts b g ts rest (ReadsParameterGroup.group {kind} {ns} {word} w q ls) =
    let x = grown_of_list (ReadsParameterAssignment b) (λ x. GroupGrows x b) (λ es. record { place = word.place; kind = kind; assignments = es }) (λ es a ts rest f. (a, f, refl)) ls in (_, x.1, GroupHead.group_first w q x.2, x.3)

shorter_group_head : {b : Bounds} {h : ParameterGroup} {ts rest : List Token} → GroupHead b h ts rest → length rest < length ts
shorter_group_head (GroupHead.group_first w q f) = omega (arith, no_longer_type q, shorter_parameter f)

shorter_group_grow : {b : Bounds} (g h : ParameterGroup) (ts rest : List Token) → GroupGrows g b h ts rest → length rest < length ts
shorter_group_grow g h ts rest (a, f, e) = shorter_parameter f

shorter_group : {b : Bounds} {g : ParameterGroup} {ts rest : List Token} → ReadsParameterGroup b g ts rest → length rest < length ts
shorter_group {b} (ReadsParameterGroup.group w q ls) = omega (arith, no_longer_type q, shorter_list (ReadsParameterAssignment b) (λ a ts rest f. shorter_parameter f) ls)

-- ---- how many tokens are left

no_longer_ports : {b : Bounds} {a : Ports} {ts rest : List Token} → ReadsPorts b a ts rest → length rest ≤ length ts
no_longer_ports ReadsPorts.no_port = omega arith
no_longer_ports (ReadsPorts.names q) = omega (arith, shorter_list ReadsIdentifier (λ a ts rest d. shorter_identifier d) q)
no_longer_ports {b} (ReadsPorts.declarations q) = omega (arith, shorter_list (ReadsPort b) (λ a ts rest d. shorter_port b d) q)

shorter_parameters : {b : Bounds} {gs : List ParameterGroup} {ts rest : List Token} → ReadsParameters b gs ts rest → length rest < length ts
shorter_parameters {b} (ReadsParameters.parameters h d) = omega (arith, shorter_parenthesized (ReadsList (ReadsParameterGroup b)) (λ a ts rest f. omega (arith, shorter_list (ReadsParameterGroup b) (λ a ts rest q. shorter_group q) f)) d)

pub shorter_module : {b : Bounds} {a : Module} {ts rest : List Token} → ReadsModule b a ts rest → length rest < length ts
shorter_module {b} (ReadsModule.module_of w d p q h ls l) = omega (
  arith,
  shorter_identifier d,
  no_longer_optional (ReadsParameters b) (λ a ts rest f. shorter_parameters f) p,
  no_longer_optional (ReadsParenthesized (ReadsPorts b)) (λ a ts rest f. shorter_parenthesized (ReadsPorts b) (λ a ts rest g. no_longer_ports g) f) q,
  no_longer_many (ReadsItem b) (λ a ts rest f. shorter_item f) ls,
)

-- ---- what is read follows the grammar

module _ (n : ℕ) where
  group_from : (b : Bounds) (v : Token) (p : Place) (g : ParameterGroup) (ts rest : List Token) → keyword (codes "parameter") v ≡ Some p
      → Then ReadsParameterType (λ kind. Then ReadsParameterAssignment (λ a. Nothing (group_of (whole n) (target n) n p kind (a ∷ [])))) b g ts rest → ReadsParameterGroup b g (v ∷ ts) rest
  group_from b v p g ts rest h (kind, us, q, (a, vs, f, (j, o))) = let x = keyword_some (codes "parameter") v p h in rw (j, x.1) (ReadsParameterGroup.group x.0 q (ReadsList.last (rw o at f)))

  follows_group_head : Follows ReadsParameterGroup (group_head (whole n) (target n) n)
  unfolding group_head
  follows_group_head = follows_weaker (λ b g ts rest (v, us, p, e, h, q). rw e (group_from b v p g us rest h q))
      (follows_keyword (codes "parameter") _ _ refl refl (λ p. follows_bind ReadsParameterType _ (parameter_type (whole n) (target n) n) _ (follows_parameter_type n)
      (λ kind. follows_bind ReadsParameterAssignment _ (parameter_assignment (whole n) (target n) n) _ (follows_parameter_assignment n) (λ a. follows_pure (group_of (whole n) (target n) n p kind (a ∷ []))))))

  follows_group_grow : (g : ParameterGroup) → Follows (GroupGrows g) (group_grow (whole n) (target n) n g)
  unfolding group_grow
  follows_group_grow g = follows_weaker (λ b h ts rest (a, us, f, (j, o)). (a, rw o at f, j)) (follows_bind ReadsParameterAssignment _ (parameter_assignment (whole n) (target n) n) _ (follows_parameter_assignment n) (λ a. follows_pure (group_of (whole n) (target n) n g.place g.kind (g.assignments ++ a ∷ []))))

  follows_parameter_groups : Follows (λ b. ReadsList (ReadsParameterGroup b)) (parameter_groups (whole n) (target n) n)
  unfolding parameter_groups
  follows_parameter_groups = follows_weaker (λ b gs ts rest (h, us, q, f). list_of_groups (ReadsParameterGroup b) (ReadsParameterGroup b) (λ x. GroupGrows x b) (λ g ts us d. d) (grow_group b) q f)
      (follows_bind ReadsParameterGroup _ (group_head (whole n) (target n) n) _ follows_group_head (λ h. follows_groups (is_word (codes "parameter")) ReadsParameterGroup GroupGrows (group_head (whole n) (target n) n) (group_grow (whole n) (target n) n) follows_group_head follows_group_grow n h))

  follows_parameters : Follows (λ b. ReadsOptional (ReadsParameters b)) (parameters (whole n) (target n) n (outer n))
  unfolding parameters
  follows_parameters = follows_optional (mark (codes "#")) (λ _ _ b. ReadsParenthesized (ReadsList (ReadsParameterGroup b))) ReadsParameters _ (λ v x h. follows_parenthesized (λ b. ReadsList (ReadsParameterGroup b)) (parameter_groups (whole n) (target n) n) follows_parameter_groups)
      (λ b v x a ts rest h d. ReadsParameters.parameters (mark_some (codes "#") v x h).0 d)

  follows_optional_ports : Follows (λ b. ReadsOptional (ReadsParenthesized (ReadsPorts b))) (optional_ports (whole n) (target n) n (outer n))
  unfolding optional_ports
  follows_optional_ports = follows_optional (mark (codes "(")) _ (λ b. ReadsParenthesized (ReadsPorts b)) _ (λ v x h. follows_closed ReadsPorts (module_ports (whole n) (target n) n) (follows_module_ports n)) (λ b v x a ts rest h d. closed_parenthesized ReadsPorts b v x a ts rest h d)

  definition_from : (b : Bounds) (v : Token) (a : Module) (ts rest : List Token) → IsKeyword (codes "module") v
      → Then (λ _. ReadsIdentifier) (λ i. Then (λ b. ReadsOptional (ReadsParameters b)) (λ gs. Then (λ b. ReadsOptional (ReadsParenthesized (ReadsPorts b))) (λ xs. After (mark (codes ";")) (λ _ _. Then (λ b. ReadsMany (ReadsItem b))
      (λ is. After (keyword (codes "endmodule")) (λ _ _. Nothing (module_of (whole n) (target n) n (outer n) v.place i gs xs is))))))) b a ts rest → ReadsModule b a (v ∷ ts) rest
  definition_from b v a ts rest w (i, us, d, (gs, vs, p, (xs, ws, q, (x, ys, y, e, h, (is, zs, ls, (z, rs, o, f, l, (j, g))))))) =
      rw j (ReadsModule.module_of w d p (rw e at q) (mark_some (codes ";") x y h).0 (rw (f, g) at ls) (keyword_some (codes "endmodule") z o l).0)

  follows_definition : (v : Token) → IsKeyword (codes "module") v → Follows (λ b a ts rest. ReadsModule b a (v ∷ ts) rest) (definition (whole n) (target n) n (outer n) v.place)
  unfolding definition
  follows_definition v w = follows_weaker (λ b a ts rest d. definition_from b v a ts rest w d)
      (follows_bind (λ _. ReadsIdentifier) _ identifier _ follows_identifier (λ i. follows_bind (λ b. ReadsOptional (ReadsParameters b)) _ (parameters (whole n) (target n) n (outer n)) _ follows_parameters
      (λ gs. follows_bind (λ b. ReadsOptional (ReadsParenthesized (ReadsPorts b))) _ (optional_ports (whole n) (target n) n (outer n)) _ follows_optional_ports
      (λ xs. follows_mark (codes ";") _ _ refl (follows_bind (λ b. ReadsMany (ReadsItem b)) _ (many (item_by (whole n) (target n) n (outer n)) (λ q. q) n) _ (follows_items n)
      (λ is. follows_keyword (codes "endmodule") _ _ refl refl (λ p. follows_pure (module_of (whole n) (target n) n (outer n) v.place i gs xs is))))))))

  definition_at : (v : Token) (p : Place) → keyword (codes "module") v ≡ Some p → Follows (λ b a ts rest. ReadsModule b a (v ∷ ts) rest × (p ≡ v.place)) (definition (whole n) (target n) n (outer n) p)
  definition_at v p h = let x = keyword_some (codes "module") v p h in
      subst (λ z. Follows (λ b a ts rest. ReadsModule b a (v ∷ ts) rest × (z ≡ v.place)) (definition (whole n) (target n) n (outer n) z)) (sym x.1) (follows_weaker (λ b a ts rest d. (d, refl)) (follows_definition v x.0))

  module_place : {b : Bounds} {a : Module} (v : Token) {ts rest : List Token} → ReadsModule b a (v ∷ ts) rest → a.place ≡ v.place
  module_place v (ReadsModule.module_of w d p q h ls l) = refl

  -- the others, behind the first
  abbrev Definitions : Place → Token → Relation Source
  Definitions p v = Then (λ b a ts rest. ReadsModule b a (v ∷ ts) rest × (p ≡ v.place)) (λ a. Then (λ b. ReadsMany (ReadsModule b)) (λ others. Nothing (source_of (whole n) (target n) n (outer n) p a others)))

  follows_definitions : (v : Token) (p : Place) → keyword (codes "module") v ≡ Some p → Follows (Definitions p v) (definition (whole n) (target n) n (outer n) p >>= λ a. many (keyword (codes "module")) (definition (whole n) (target n) n (outer n)) n >>= λ others. pure (source_of (whole n) (target n) n (outer n) p a others))
  follows_definitions v p h = follows_bind _ _ (definition (whole n) (target n) n (outer n) p) _ (definition_at v p h) (λ a. follows_bind (λ b. ReadsMany (ReadsModule b)) _ (many (keyword (codes "module")) (definition (whole n) (target n) n (outer n)) n) _
      (follows_each (keyword (codes "module")) (λ v p b a ts rest. ReadsModule b a (v ∷ ts) rest × (p ≡ v.place)) ReadsModule (definition (whole n) (target n) n (outer n)) (λ v p h. definition_at v p h) (λ b v p a ts rest h d. d.0) n)
      (λ others. follows_pure (source_of (whole n) (target n) n (outer n) p a others)))

  source_from : (b : Bounds) (v : Token) (p : Place) (a : Source) (ts rest : List Token) → Definitions p v b a ts rest → ReadsSource b a (v ∷ ts) rest
  source_from b v p a ts rest (m, us, (d, e), (others, vs, f, (j, g))) = rw (j, e ∙ sym (module_place v d)) (ReadsSource.source d (rw g at f))

  pub follows_modules : Follows ReadsSource (modules (whole n) (target n) n (outer n))
  unfolding modules
  follows_modules = follows_weaker (λ b a ts rest (v, us, p, e, h, d). rw e (source_from b v p a us rest d))
      (follows_must (keyword (codes "module")) (λ v p. Definitions p v) _ (λ v p h. follows_definitions v p h) (word_of (codes "module")) (word_of (codes "module")).place (word_here (codes "module") refl) (word_free (codes "module") refl refl))

-- ---- what the grammar derives is read

parameter_word : (v : Token) (us : List Token) → IsKeyword (codes "parameter") v → is_next (is_word (codes "parameter")) (v ∷ us) ≡ true
parameter_word v us h = rw (keyword_here (codes "parameter") (codes "parameter") v h refl) refl

ends_comma : (v : Token) (us : List Token) → IsMark (codes ",") v → Ends (v ∷ us)
ends_comma v us h = ends_before (codes ",") v us h refl refl refl refl

module _ (n most : ℕ) (room : most + 1 < n) (s t : Bool) (u : ℕ) where
  reads_group_head : {h : ParameterGroup} {ts rest : List Token} → GroupHead (bounds s t u) h ts rest → length ts ≤ most → Ends rest → Reads s t u h rest (group_head (whole n) (target n) n ts)
  unfolding group_head
  reads_group_head (GroupHead.group_first {kind} {a} {word} {ts} {us} {rest} w q f) l c =
      rw (keyword_next (codes "parameter") word ts w refl) (reads_bind _ (reads_parameter_type n most room s t u q (omega (arith, l)) (named_parameter f)) (reads_bind _ (reads_parameter_assignment n most room s t u f (omega (arith, l, no_longer_type q)) c) read_now))

  reads_group_grow : (g h : ParameterGroup) (ts rest : List Token) → GroupGrows g (bounds s t u) h ts rest → length ts ≤ most → Ends rest → Reads s t u h rest (group_grow (whole n) (target n) n g ts)
  unfolding group_grow
  reads_group_grow g h ts rest (a, f, e) l c = rw e (reads_bind _ (reads_parameter_assignment n most room s t u f l c) read_now)

  group_head_word : {h : ParameterGroup} {ts rest : List Token} → GroupHead (bounds s t u) h ts rest → is_next (is_word (codes "parameter")) ts ≡ true
  group_head_word (GroupHead.group_first {kind} {a} {word} {ts} w q f) = parameter_word word ts w

  group_grow_word : (g h : ParameterGroup) (ts rest : List Token) → GroupGrows g (bounds s t u) h ts rest → is_next (is_word (codes "parameter")) ts ≡ false
  group_grow_word g h ts rest (a, f, e) = not_word (codes "parameter") ts (named_no_word (codes "parameter") (named_parameter f))

  behind_groups : {g : ParameterGroup} {gs : List ParameterGroup} {ts rest : List Token} → ReadsGroups (GroupHead (bounds s t u)) (λ x. GroupGrows x (bounds s t u)) g gs ts rest → Ends rest → Ends ts
  behind_groups ReadsGroups.last_group c = c
  behind_groups (ReadsGroups.opened {comma} {ts} i q f) c = ends_comma comma ts i
  behind_groups (ReadsGroups.grown {comma} {ts} i q f) c = ends_comma comma ts i

  reads_parameter_groups : {gs : List ParameterGroup} {ts rest : List Token} → ReadsList (ReadsParameterGroup (bounds s t u)) gs ts rest → length ts ≤ most → Ends rest → next_by (mark (codes ",")) rest ≡ None → Reads s t u gs rest (parameter_groups (whole n) (target n) n ts)
  unfolding parameter_groups
  reads_parameter_groups {gs} {ts} {rest} q l c e =
      let x = groups_of_list (ReadsParameterGroup (bounds s t u)) (GroupHead (bounds s t u)) (λ x. GroupGrows x (bounds s t u)) (group_parts (bounds s t u)) q in
      let less = shorter_group_head x.2 in
      reads_bind _ (reads_group_head x.2 l (behind_groups x.3 c))
      (reads_groups (is_word (codes "parameter")) _ _ (GroupHead (bounds s t u)) (λ x. GroupGrows x (bounds s t u)) Ends ends_comma most
      (λ h ts rest l q c. (group_head_word q, reads_group_head q l c)) (λ g h ts rest l q c. (group_grow_word g h ts rest q, reads_group_grow g h ts rest q l c))
      (λ h ts rest q. omega (arith, shorter_group_head q)) (λ g h ts rest q. omega (arith, shorter_group_grow g h ts rest q)) x.3 n (omega (arith, l, less)) (omega (arith, l, room, less)) c e)

  parameters_open : {gs : List ParameterGroup} {ts rest : List Token} → ReadsParameters (bounds s t u) gs ts rest → length ts ≤ most → Opens (mark (codes "#")) (λ _. parenthesized (parameter_groups (whole n) (target n) n)) s t u gs ts rest
  parameters_open (ReadsParameters.parameters {gs} {hash} {ts} {rest} h d) l = (
    hash,
    ts,
    hash.place,
    refl,
    mark_here (codes "#") (codes "#") hash h refl,
    reads_parenthesized (parameter_groups (whole n) (target n) n) (ReadsList (ReadsParameterGroup (bounds s t u))) d (λ us closing less f i. reads_parameter_groups f (omega (arith, l, less)) (ends_before (codes ")") closing rest i refl refl refl refl) (mark_apart (codes ",") (codes ")") closing rest i refl)),
  )

  -- what follows the parameters begins with no `#`
  ports_first : (m : List ℕ) {a : Option Ports} {ts : List Token} (closing : Token) (rest : List Token) → ReadsOptional (ReadsParenthesized (ReadsPorts (bounds s t u))) a ts (closing ∷ rest) → IsMark (codes ";") closing → bytes_eq (codes "(") m ≡ false → bytes_eq (codes ";") m ≡ false → next_by (mark m) ts ≡ None
  ports_first m closing rest ReadsOptional.nothing h a b = mark_apart m (codes ";") closing rest h b
  ports_first m closing rest (ReadsOptional.something (ReadsParenthesized.parenthesized {a = x} {opening} {closing = last} {ts} i d j)) h a b = mark_apart m (codes "(") opening ts i a

  ports_open : {a : Ports} {ts rest : List Token} → ReadsParenthesized (ReadsPorts (bounds s t u)) a ts rest → length ts ≤ most → Opens (mark (codes "(")) (λ _. module_ports (whole n) (target n) n >>= λ xs. must (mark (codes ")")) (λ _. pure xs)) s t u a ts rest
  ports_open (ReadsParenthesized.parenthesized {a} {opening} {closing} {ts} {rest} h d i) l = (
    opening,
    ts,
    opening.place,
    refl,
    mark_here (codes "(") (codes "(") opening h refl,
    reads_bind _ (reads_module_ports n most room s t u a closing d i (omega (arith, l))) (rw (mark_next (codes ")") closing rest i refl) read_now),
  )

  -- what ends the items is none
  items_end : (v : Token) (us : List Token) → IsKeyword (codes "endmodule") v → next_by (item_by (whole n) (target n) n (outer n)) (v ∷ us) ≡ None
  unfolding item_by
  items_end v us h = none_here (item_by (whole n) (target n) n (outer n)) v us (ap (item_by_kind (whole n) (target n) n (outer n) v.place) h)

  definition_opens : {a : Module} {ts rest : List Token} → ReadsModule (bounds s t u) a ts rest → length ts ≤ most → Opens (keyword (codes "module")) (definition (whole n) (target n) n (outer n)) s t u a ts rest
  unfolding definition parameters optional_ports
  definition_opens (ReadsModule.module_of {n = i} {gs} {ports} {is} {word} {closing} {last} {ts} {us} {vs} {ws} {rest} w d p q h ls e) l =
      let one = no_longer_optional (ReadsParameters (bounds s t u)) (λ a ts rest f. shorter_parameters f) p in
      let two = no_longer_optional (ReadsParenthesized (ReadsPorts (bounds s t u))) (λ a ts rest f. shorter_parenthesized (ReadsPorts (bounds s t u)) (λ a ts rest g. no_longer_ports g) f) q in (
        word,
        ts,
        word.place,
        refl,
        keyword_here (codes "module") (codes "module") word w refl,
        rw (identifier_reads d)
            (reads_bind _ (reads_optional (mark (codes "#")) _ (ReadsParameters (bounds s t u)) p (ports_first (codes "#") closing ws q h refl refl) (λ e f. parameters_open f (omega (arith, l, shorter_identifier d))))
            (reads_bind _ (reads_optional (mark (codes "(")) _ (ReadsParenthesized (ReadsPorts (bounds s t u))) q (mark_apart (codes "(") (codes ";") closing ws h refl) (λ e f. ports_open f (omega (arith, l, shorter_identifier d, one))))
            (rw (mark_next (codes ";") closing ws h refl) (reads_bind _ (reads_items n most room s t u ls (omega (arith, l, shorter_identifier d, one, two)) (items_end last rest e)) (rw (keyword_next (codes "endmodule") last rest e refl) read_now))))),
      )

  module_at : {a : Module} {ts rest : List Token} → ReadsModule (bounds s t u) a ts rest → (v : Token) (us : List Token) (p : Place) → ts ≡ v ∷ us → keyword (codes "module") v ≡ Some p → a.place ≡ p
  module_at (ReadsModule.module_of {word} w d p q h ls l) v us x e i = let g : word ≡ v = cc in ap (λ z. z.place) g ∙ sym (keyword_some (codes "module") v x i).1

  source_at : {m : Module} {others : List Module} {vs rest : List Token} (v : Token) (us : List Token) (p : Place) → keyword (codes "module") v ≡ Some p → m.place ≡ p → Reads s t u m vs (definition (whole n) (target n) n (outer n) p us) → Reads s t u others rest (many (keyword (codes "module")) (definition (whole n) (target n) n (outer n)) n vs)
      → Reads s t u (record { place = m.place; modules = m ∷ others }) rest (modules (whole n) (target n) n (outer n) (v ∷ us))
  unfolding modules
  source_at {m} {others} {vs} {rest} v us p h e q f = subst (λ z. Reads s t u (record { place = z; modules = m ∷ others }) rest (modules (whole n) (target n) n (outer n) (v ∷ us))) (sym e)
      (reads_next (keyword (codes "module")) _ _ v us p h (reads_bind _ q (reads_bind _ f read_now)))

  source_reads : {a : Source} {ts rest : List Token} → ReadsSource (bounds s t u) a ts rest → length ts ≤ most → next_by (keyword (codes "module")) rest ≡ None → Reads s t u a rest (modules (whole n) (target n) n (outer n) ts)
  source_reads (ReadsSource.source {m} {others} {ts} {us} {rest} d f) l e =
      let x = definition_opens d l in
      subst (λ z. Reads s t u (record { place = m.place; modules = m ∷ others }) rest (modules (whole n) (target n) n (outer n) z)) (sym x.3)
      (source_at x.0 x.1 x.2 x.4 (module_at d x.0 x.1 x.2 x.3 x.4) x.5
      (reads_each (keyword (codes "module")) (definition (whole n) (target n) n (outer n)) (ReadsModule (bounds s t u)) most (λ a ts rest l q. definition_opens q l) (λ a ts rest q. shorter_module q) f n (omega (arith, l, shorter_module d)) (omega (arith, l, room, shorter_module d)) e))

pub reads_modules : {s t : Bool} {u : ℕ} {a : Source} {ts : List Token} (n : ℕ) → ReadsSource (bounds s t u) a ts [] → length ts + 1 < n → Reads s t u a [] (modules (whole n) (target n) n (outer n) ts)
unfolding next_by
reads_modules {s} {t} {u} {a} {ts} n d h = source_reads n (length ts) h s t u d (omega arith) refl
