-- Bindings, open elements and tags of the code as those of the grammar.
use Rattle.std.specs.Prelude.{◌≡◌, ◌+◌, List, ◌++◌, length, map, fold, is_some}
use Rattle.std.specs.List.{list_all}
use Rattle.dav_doc.specs.Names as names
use Rattle.dav_doc.specs.Names.{lookup, base, declared, is_bound, Attribute, AreAttributes}
use Rattle.dav_doc.specs.Document as document
use Rattle.dav_markup.specs.Name.{name_in}
use Rattle.dav_markup.specs.declared.scope.Binding.{Binding}
use Rattle.dav_markup.specs.declared.scope.Open.{Open}
use Rattle.dav_markup.specs.declared.scope.Tag.{Tag}

abbrev pub binding_in : Binding → names.Binding
binding_in b = record { prefix = b.prefix; ns = b.ns }

abbrev pub bindings_in : List Binding → List names.Binding
bindings_in bs = map binding_in bs

-- the declarations of an element before those around it
abbrev pub below : List names.Binding → Open → List names.Binding
below scope element = bindings_in element.bindings.items ++ scope

-- the declarations in these open elements, the innermost of which is the last
abbrev pub scope_in : List Open → List names.Binding
scope_in opens = fold below base opens

-- the code's tag is what its bindings and its further attributes' prefixes say in any scope
pub record Fits (tag : Tag) (t : document.Tag) : Type 0 where
  pub name : name_in tag.name ≡ t.name
  pub count : length tag.bindings.items + length tag.prefixes.items ≡ length t.attributes
  pub declares : (scope : List names.Binding) → bindings_in tag.bindings.items ++ scope ≡ declared t.attributes scope
  pub bound : (scope : List names.Binding) → list_all (λ p. is_some (lookup scope p)) tag.prefixes.items ≡ list_all (is_bound scope) t.attributes
