-- The names of methods.
use Rattle.std.specs.Prelude.{ℕ, List, codes}
use Rattle.dav_text.specs.declared.method.Method.{Method}
use Rattle.dav_text.specs.declared.method.Method.TheVariants.{Options, Get, Head, Put, Delete, Mkcol, Copy, Move, Lock, Unlock, Propfind, Proppatch}

-- the name of a method, as a request line has it
abbrev pub method_name : Method → List ℕ
method_name Options = codes "OPTIONS"
method_name Get = codes "GET"
method_name Head = codes "HEAD"
method_name Put = codes "PUT"
method_name Delete = codes "DELETE"
method_name Mkcol = codes "MKCOL"
method_name Copy = codes "COPY"
method_name Move = codes "MOVE"
method_name Lock = codes "LOCK"
method_name Unlock = codes "UNLOCK"
method_name Propfind = codes "PROPFIND"
method_name Proppatch = codes "PROPPATCH"
