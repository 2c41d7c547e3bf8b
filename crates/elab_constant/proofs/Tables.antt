-- What a table stands for after a key is put in.
use Rattle.std.proofs.Common.{◌≡◌, refl, ap, ◌∙◌, ℕ, Bool, true, false, List}
use Rattle.std.specs.Prelude.{Option, Some, option_map, if◌then◌else◌}
use Rattle.std.specs.Borrow.{Bor}
use Rattle.std.specs.Str.{bytes_eq}
use Rattle.std.proofs.lemmas.Map.Text.{hash_map_updates_str}
use Rattle.indexmap.specs.IndexMap.{IndexMap, get_by, UpdatesBy}
use Rattle.elab_plain.specs.vl_flat.specs.Scopes.{bind}
use Rattle.elab_constant.specs.declared.scope.Known.{Known}
use Rattle.elab_constant.specs.Seen.{binding_of, look}

map-if : (b : Bool) (w : Known) (o : Option Known) → option_map binding_of (if b then Some w else o) ≡ (if b then Some (binding_of w) else option_map binding_of o)
map-if true w o = refl
map-if false w o = refl

pub look-insert : {S : Type 0} (m n : IndexMap (Bor (List ℕ)) Known S) (bs name : List ℕ) (w : Known) → bs ≡ name → UpdatesBy (λ x y. bytes_eq x.now y.now) (λ k. bytes_eq bs k.now) m n (Some w) → look n ≡ bind (look m) name (binding_of w)
look-insert m n bs name w e u =
    (λ i t. (ap (option_map binding_of) (hash_map_updates_str bs m n (Some w) u t) ∙ map-if (bytes_eq bs t) w (get_by (λ k. bytes_eq t k.now) m)) i)
    ∙ ap (λ b. bind (look m) b (binding_of w)) e
