-- Which locks a request submits. That a server asks for the token of each lock that protects what a request
-- changes is RFC 4918 section 7; which ones this client submits is its own choice.
use Rattle.std.specs.Prelude.{◌≡◌, Bool, true, false, ◌&&◌, ◌||◌, List, filter}
use Rattle.dav_text.specs.Path.{PathParts, IsSame, IsUnder, IsParent}
use Rattle.dav_locks.specs.Paths.{same_path, is_below, is_child}
use Rattle.dav_locks.specs.declared.lock.Lock.{Lock}
use Rattle.dav_locks.specs.declared.reach.Depth.{Depth}
use Rattle.dav_locks.specs.declared.reach.Depth.TheVariants.{Zero, Infinity}
use Rattle.dav_locks.specs.declared.reach.Use.{Use}
use Rattle.dav_locks.specs.declared.reach.Use.TheVariants.{Itself, Member}

-- the lock protects what the request changes at the path, or down to the depth below it
pub data IsSubmitted (how : Use) (path : PathParts) (depth : Depth) (lock : Lock) : Type 0 where
  -- it was taken of the path: RFC 4918 section 6.1, rule 4
  direct : IsSame lock.root path → IsSubmitted how path depth lock
  -- it reaches down to the path: sections 6.1, rule 5, and 7.4
  from_above : lock.depth ≡ Infinity → IsUnder path lock.root → IsSubmitted how path depth lock
  -- the request reaches down to its root: section 9.6.1
  from_below : depth ≡ Infinity → IsUnder lock.root path → IsSubmitted how path depth lock
  -- it is that of the collection above, which the request changes in its members: section 7.4
  of_parent : how ≡ Member → IsParent lock.root path → IsSubmitted how path depth lock

abbrev pub is_infinite : Depth → Bool
is_infinite Zero = false
is_infinite Infinity = true

abbrev pub is_of_member : Use → Bool
is_of_member Itself = false
is_of_member Member = true

-- the same, as a test
abbrev pub is_submitted : Use → PathParts → Depth → Lock → Bool
is_submitted how path depth lock =
    same_path lock.root path
    || (is_infinite lock.depth && is_below lock.root path)
    || (is_infinite depth && is_below path lock.root)
    || (is_of_member how && is_child lock.root path)

-- the locks of a list that a request submits
abbrev pub submitted : List Lock → Use → PathParts → Depth → List Lock
submitted locks how path depth = filter (is_submitted how path depth) locks
