-- The value of an If field that submits locks.
use Rattle.std.specs.Prelude.{ℕ, List, [], ◌∷◌, ◌++◌, map, flat_map, codes, IsTrue}
use Rattle.dav_text.specs.Path.{escaped}
use Rattle.dav_uri.specs.Target.{BaseParts, host_field}
use Rattle.dav_locks.specs.Grammar.{Condition}
use Rattle.dav_locks.specs.Token.{is_token}
use Rattle.dav_locks.specs.declared.lock.Lock.{Lock}

-- the root of a lock as a URL, where this is the server's Host field
abbrev pub root_url : List ℕ → Lock → List ℕ
root_url host lock = codes "http://" ++ host ++ escaped lock.root

-- the tag of the root, and the list of the token
abbrev pub condition_text : List ℕ → Lock → List ℕ
condition_text host lock = codes "<http://" ++ host ++ escaped lock.root ++ codes "> (<" ++ lock.token ++ codes ">)"

-- the same after a space
abbrev pub later_text : List ℕ → Lock → List ℕ
later_text host lock = 32 ∷ condition_text host lock

abbrev pub conditions_text : List ℕ → List Lock → List ℕ
conditions_text host [] = []
conditions_text host (lock ∷ locks) = condition_text host lock ++ flat_map (later_text host) locks

abbrev pub host_of_base : BaseParts → List ℕ
host_of_base base = host_field base.host base.port

-- the text that submits the locks to the base's server
abbrev pub if_text : BaseParts → List Lock → List ℕ
if_text base locks = conditions_text (host_of_base base) locks

-- what the text asks for: of each root, that it is locked with the token
abbrev pub conditions : BaseParts → List Lock → List Condition
conditions base locks = map (λ (lock : Lock). record { url = root_url (host_of_base base) lock; token = lock.token }) locks

-- its token is one that can be submitted
abbrev pub HasToken : Lock → Type 0
HasToken lock = IsTrue (is_token lock.token)
