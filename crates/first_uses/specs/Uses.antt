-- Where names are entered and dupped, as the node list has it.
use Rattle.std.specs.Prelude.{ℕ, Bool, false, ◌&&◌, List, reverse, Some, None, Option, ◌==◌, nat_lt}
use Rattle.std.specs.List.{find, filter_map}
use Rattle.std.specs.Option.{option_and_then, option_map}
use Rattle.std.specs.Str.{bytes_eq}
use Rattle.layout.specs.declared.node.Node.{Node}
use Rattle.layout.specs.declared.node.NodeForm.{NodeForm}
use Rattle.layout.specs.declared.node.NodeForm.TheVariants as form
use Rattle.layout.specs.declared.word.Word.{Word}
use Rattle.names.specs.Parts.{part_of}

-- the name at p that an expression enters
abbrev pub entered_at : ℕ → NodeForm → Option Word
entered_at p form.Unused = None
entered_at p (form.Integer z) = None
entered_at p (form.Symbol n) = None
entered_at p (form.Boolean b) = None
entered_at p form.Unit = None
entered_at p (form.Name size) = Some (record { place = p; size = size })
entered_at p form.If = None
entered_at p form.Begin = None
entered_at p form.Let = None
entered_at p form.Case = None
entered_at p (form.Dup word) = None
entered_at p form.Apply = None
entered_at p (form.Binding word) = None
entered_at p (form.Branch q) = None

abbrev pub entered : Node → Option Word
entered node = entered_at node.place node.form

-- the name that an expression at p enters or dups
abbrev pub used_at : ℕ → NodeForm → Option Word
used_at p form.Unused = None
used_at p (form.Integer z) = None
used_at p (form.Symbol n) = None
used_at p (form.Boolean b) = None
used_at p form.Unit = None
used_at p (form.Name size) = Some (record { place = p; size = size })
used_at p form.If = None
used_at p form.Begin = None
used_at p form.Let = None
used_at p form.Case = None
used_at p (form.Dup word) = Some word
used_at p form.Apply = None
used_at p (form.Binding word) = None
used_at p (form.Branch q) = None

abbrev pub used : Node → Option Word
used node = used_at node.place node.form

-- the name that is used at a place
abbrev pub name_at : List Node → ℕ → Option Word
name_at nodes place = find (λ w. w.place == place) (filter_map used nodes)

-- whether a word is this name, before the place
abbrev pub stands_before : List ℕ → List ℕ → ℕ → Option Word → Bool
stands_before text name place (Some w) = nat_lt w.place place && bytes_eq (part_of text w) name
stands_before text name place None = false

-- whether an expression enters this name before the place
abbrev pub is_entered : List ℕ → List ℕ → ℕ → Node → Bool
is_entered text name place node = stands_before text name place (entered node)

-- where a name was entered last before the place
abbrev pub last_entered : List ℕ → List Node → ℕ → List ℕ → Option ℕ
last_entered text nodes place name = option_map (λ n. n.place) (find (is_entered text name place) (reverse nodes))

-- where the name that is used at a place was entered last before it
abbrev pub first_use : List ℕ → List Node → ℕ → Option ℕ
first_use text nodes place = option_and_then (λ w. last_entered text nodes place (part_of text w)) (name_at nodes place)
