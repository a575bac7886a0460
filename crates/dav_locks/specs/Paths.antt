-- Tests on paths: whether two are the same, and whether one stands below the other.
use Rattle.std.specs.Prelude.{ℕ, suc, Bool, ◌&&◌, List, length, take, nat_eq, nat_lt}
use Rattle.std.specs.Cmp.Lexicographic.{pointwise}
use Rattle.dav_text.specs.Path.{PathParts}

-- whether two lists of segments are the same
abbrev pub same_segments : List (List ℕ) → List (List ℕ) → Bool
same_segments a b = pointwise (pointwise nat_eq) a b

-- whether two paths are the same, a slash at their end aside
abbrev pub same_path : PathParts → PathParts → Bool
same_path a b = same_segments a.segments b.segments

-- whether the path stands strictly below the top
abbrev pub is_below : PathParts → PathParts → Bool
is_below top path =
    nat_lt (length top.segments) (length path.segments) && same_segments (take (length top.segments) path.segments) top.segments

-- whether the path stands right below the parent
abbrev pub is_child : PathParts → PathParts → Bool
is_child parent path = nat_eq (length path.segments) (suc (length parent.segments)) && is_below parent path
