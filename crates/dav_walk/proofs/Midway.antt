-- A walk in the middle of a piece.
use Rattle.std.proofs.Common.{◌≡◌, ℕ, ◌+◌, ◌-◌, ◌<◌, Bool, true, false, List, [], ◌∷◌, ◌++◌, length, length-append, length-drop, take, drop, take_all, refl, ap, sym, ◌∙◌, append_assoc, append-nil, subst, arith}
use Rattle.std.proofs.lemmas.List.{take-append-drop, length-take}
use Rattle.std.specs.Prelude.{not}
use Rattle.dav_doc.specs.Document.{Event}
use Rattle.dav_xml.specs.declared.scan.Scan.{Scan}
use Rattle.dav_xml.specs.declared.scan.Fed.{Fed}
use Rattle.dav_xml.specs.declared.event.Lent.{Lent}
use Rattle.dav_xml.specs.declared.event.Lent.TheVariants as lents
use Rattle.dav_xml.specs.declared.fault.XmlFault.{XmlFault}
use Rattle.dav_xml.specs.Events.{lent_in, later_in, is_ready}
use Rattle.dav_xml.specs.Read.{HasRead, Feeds, Stops, Fails, lent as lent_of}
use Rattle.dav_walk.specs.declared.root.Root.{Root}
use Rattle.dav_walk.specs.declared.handler.Next.{Next}
use Rattle.dav_walk.specs.declared.fault.WalkFault.{WalkFault}
use Rattle.dav_walk.specs.declared.fault.WalkFault.TheVariants as faults
use Rattle.dav_walk.specs.Lending.{Response, LentAll, LentToStop}
use Rattle.dav_walk.specs.Gathering as gathering
use Rattle.dav_walk.specs.Gathering.{Gathering, Goes, Walked, between, walk}
use Rattle.dav_walk.specs.Walking.{IsReading, Stands, GoesOn, StopsIn, Ends, starved, refused, unfit, of_xml}
use Rattle.dav_walk.proofs.WalkLemmas.{walk_then, LentAll-append, LentToStop-append}

-- the front of the piece is taken
pub record Midway {S : Type 0} (lends : S → Response → Next → S → Type 0) (root : Root) (scan : Scan) (g : Gathering) (text piece rest : List ℕ) (lent : List Response) (old new : S) : Type 0 where
  pub front : List ℕ
  pub split : piece ≡ front ++ rest
  pub given : List Event
  pub read : HasRead scan (text ++ front) given
  pub more : List Response
  pub walked : walk (between root 0) given ≡ record { ended = lent ++ more; outcome = Goes g }
  pub handed : LentAll lends old more new

pub midway_begins : {S : Type 0} (lends : S → Response → Next → S → Type 0) (root : Root) (scan : Scan) (g : Gathering) (text piece : List ℕ) (lent : List Response) (old : S)
    → Stands root scan g text lent → Midway lends root scan g text piece piece lent old old
midway_begins lends root scan g text piece lent old h = record {
  front = [];
  split = refl;
  given = h.given;
  read = (let P : List ℕ → Type 0 = λ s. HasRead scan s h.given in subst P (sym (append-nil text)) h.read);
  more = [];
  walked = h.walked ∙ ap (λ z. let w : Walked = record { ended = z; outcome = Goes g } in w) (sym (append-nil lent));
  handed = refl;
}

-- the scanner goes on
record Fed_on (scan : Scan) (text front rest : List ℕ) (given : List Event) (used : ℕ) : Type 0 where
  read : HasRead scan (text ++ (front ++ take used rest)) (given ++ lent_of scan)

fed_on : (scan : Scan) (text front rest : List ℕ) (given : List Event) (fed : Fed) → Feeds (text ++ front) given rest fed scan → Fed_on scan text front rest given fed.used
fed_on scan text front rest given fed h = record {
  read = (let P : List ℕ → Type 0 = λ s. HasRead scan s (given ++ lent_of scan) in subst P (append_assoc text front (take fed.used rest)) h.read);
}

split_on : (piece front rest : List ℕ) (n : ℕ) → piece ≡ front ++ rest → piece ≡ (front ++ take n rest) ++ drop n rest
split_on piece front rest n e = e ∙ ap (λ z. front ++ z) (sym (take-append-drop n rest)) ∙ sym (append_assoc front (take n rest) (drop n rest))

walked_on : (root : Root) (g h : Gathering) (given later : List Event) (lent more : List Response)
    → walk (between root 0) given ≡ record { ended = lent ++ more; outcome = Goes g } → (walk g later).outcome ≡ Goes h
    → walk (between root 0) (given ++ later) ≡ record { ended = lent ++ (more ++ (walk g later).ended); outcome = Goes h }
walked_on root g h given later lent more e f =
    walk_then (between root 0) g given later (lent ++ more) e
    ∙ ap (λ z. let w : Walked = record { ended = z; outcome = (walk g later).outcome } in w) (append_assoc lent more (walk g later).ended)
    ∙ ap (λ o. let w : Walked = record { ended = lent ++ (more ++ (walk g later).ended); outcome = o } in w) f

pub midway_on : {S : Type 0} (lends : S → Response → Next → S → Type 0) (root : Root) (scan next : Scan) (g h : Gathering) (text piece rest : List ℕ) (lent : List Response) (old mid new : S) (fed : Fed)
    → (m : Midway lends root scan g text piece rest lent old mid) → Feeds (text ++ m.front) m.given rest fed next
    → (walk g (lent_of next)).outcome ≡ Goes h → LentAll lends mid (walk g (lent_of next)).ended new
    → Midway lends root next h text piece (drop fed.used rest) lent old new
midway_on lends root scan next g h text piece rest lent old mid new fed m f o l = record {
  front = m.front ++ take fed.used rest;
  split = split_on piece m.front rest fed.used m.split;
  given = m.given ++ lent_of next;
  read = (fed_on next text m.front rest m.given fed f).read;
  more = m.more ++ (walk g (lent_of next)).ended;
  walked = walked_on root g h m.given (lent_of next) lent m.more m.walked o;
  handed = LentAll-append lends m.more (walk g (lent_of next)).ended old mid new m.handed l;
}

nothing_lent : (lent : Lent) → is_ready lent ≡ false → (lent_in lent ≡ []) × (later_in lent ≡ [])
nothing_lent lents.Nothing e = (refl, refl)
nothing_lent (lents.Chars few) e = cc
nothing_lent (lents.Run bytes) e = cc
nothing_lent (lents.Start depth ns name empty) e = cc
nothing_lent (lents.End depth) e = cc

-- the piece is through
pub midway_through : {S : Type 0} (lends : S → Response → Next → S → Type 0) (root : Root) (scan next : Scan) (g : Gathering) (text piece rest : List ℕ) (lent : List Response) (old new : S) (fed : Fed)
    → (m : Midway lends root scan g text piece rest lent old new) → Feeds (text ++ m.front) m.given rest fed next → fed.ready ≡ false
    → GoesOn lends root next g text piece lent old new
midway_through lends root scan next g text piece rest lent old new fed m f r =
    let n = nothing_lent next.lent (sym f.ready ∙ r) in
    let a = (fed_on next text m.front rest m.given fed f).read in
    let P : List ℕ → Type 0 = λ s. HasRead next (text ++ s) m.given in
    let Q : List Event → Type 0 = λ e. HasRead next (text ++ (m.front ++ take fed.used rest)) e in
    let b : HasRead next (text ++ (m.front ++ take fed.used rest)) m.given = subst Q (ap (λ e. m.given ++ e) n.0 ∙ append-nil m.given) a in
    record {
      more = m.more;
      stands = record {
        given = m.given;
        read = subst P (ap (λ z. m.front ++ z) (take_all fed.used rest (omega (arith, f.all r))) ∙ sym m.split) b;
        quiet = n.1;
        walked = m.walked;
      };
      handed = m.handed;
    }

-- the handler stops
pub midway_stops : {S : Type 0} (lends : S → Response → Next → S → Type 0) (root : Root) (scan next : Scan) (g h : Gathering) (text piece rest : List ℕ) (lent : List Response) (old mid new : S) (fed : Fed)
    → (m : Midway lends root scan g text piece rest lent old mid) → Feeds (text ++ m.front) m.given rest fed next
    → (walk g (lent_of next)).outcome ≡ Goes h → LentToStop lends mid (walk g (lent_of next)).ended new
    → StopsIn lends root next h text piece lent old new
midway_stops lends root scan next g h text piece rest lent old mid new fed m f o l = record {
  front = m.front ++ take fed.used rest;
  rest = drop fed.used rest;
  split = split_on piece m.front rest fed.used m.split;
  given = m.given ++ lent_of next;
  read = (fed_on next text m.front rest m.given fed f).read;
  more = m.more ++ (walk g (lent_of next)).ended;
  walked = walked_on root g h m.given (lent_of next) lent m.more m.walked o;
  handed = LentToStop-append lends m.more (walk g (lent_of next)).ended old mid new m.handed l;
}

-- no memory
pub midway_starved : {S : Type 0} (lends : S → Response → Next → S → Type 0) (root : Root) (scan : Scan) (g : Gathering) (text piece rest : List ℕ) (lent : List Response) (old new : S) (fault : WalkFault)
    → Midway lends root scan g text piece rest lent old new → fault ≡ faults.Memory → Ends lends root text piece lent old new fault
midway_starved {S} lends root scan g text piece rest lent old new fault m e =
    let P : WalkFault → Type 0 = λ f. Ends lends root text piece lent old new f in
    subst P (sym e) (starved g (record {
      front = m.front;
      rest = rest;
      split = m.split;
      more = m.more;
      gathers = record { given = m.given; later = later_in scan.lent; stand = _; read = m.read.read; walked = m.walked };
      handed = m.handed;
    }))

-- the scanner refuses a byte
pub midway_refused : {S : Type 0} (lends : S → Response → Next → S → Type 0) (root : Root) (scan : Scan) (g : Gathering) (text piece rest : List ℕ) (lent : List Response) (old new : S) (fault : XmlFault)
    → (m : Midway lends root scan g text piece rest lent old new) → Stops (text ++ m.front) m.given rest fault
    → Ends lends root text piece lent old new (of_xml fault)
midway_refused lends root scan g text piece rest lent old new fault m s =
    let P : List ℕ → Type 0 = λ t. Fails t m.given s.byte fault in
    refused (of_xml fault) (record {
      front = m.front ++ s.front;
      byte = s.byte;
      rest = s.rest;
      split = m.split ∙ ap (λ z. m.front ++ z) s.split ∙ sym (append_assoc m.front s.front (s.byte ∷ s.rest));
      why = fault;
      is = refl;
      more = m.more;
      refuses = record { given = m.given; fails = subst P (append_assoc text m.front s.front) s.fails; h = g; walked = m.walked };
      handed = m.handed;
    })

-- an event is at fault
pub midway_unfit : {S : Type 0} (lends : S → Response → Next → S → Type 0) (root : Root) (scan next : Scan) (g : Gathering) (text piece rest : List ℕ) (lent : List Response) (old new : S) (fed : Fed) (fault : WalkFault)
    → (m : Midway lends root scan g text piece rest lent old new) → Feeds (text ++ m.front) m.given rest fed next
    → walk g (lent_of next) ≡ record { ended = []; outcome = gathering.Fails fault }
    → Ends lends root text piece lent old new fault
midway_unfit lends root scan next g text piece rest lent old new fed fault m f w =
    let a = (fed_on next text m.front rest m.given fed f).read in
    unfit fault (record {
      front = m.front ++ take fed.used rest;
      rest = drop fed.used rest;
      split = split_on piece m.front rest fed.used m.split;
      more = m.more;
      gathers = record {
        given = m.given ++ lent_of next;
        later = later_in next.lent;
        stand = _;
        read = a.read;
        walked =
            walk_then (between root 0) g m.given (lent_of next) (lent ++ m.more) m.walked
            ∙ ap (λ (v : Walked). let u : Walked = record { ended = (lent ++ m.more) ++ v.ended; outcome = v.outcome } in u) w
            ∙ ap (λ z. let u : Walked = record { ended = z; outcome = gathering.Fails fault } in u) (append-nil (lent ++ m.more));
      };
      handed = m.handed;
    })

-- the scanner has read some text, and there is room for the rest of the piece
pub record IsIn (scan : Scan) (rest : List ℕ) : Type 0 where
  pub text : List ℕ
  pub given : List Event
  pub read : HasRead scan text given
  pub room : length text + length rest < 18446744073709551616

pub in_begins : (scan : Scan) (piece : List ℕ) → IsReading scan → scan.at + length piece < 18446744073709551616 → IsIn scan piece
in_begins scan piece h r = record { text = h.text; given = h.given; read = h.read; room = (let a = h.read.at in omega arith) }

pub in_room : (scan : Scan) (rest : List ℕ) → IsIn scan rest → scan.at + length rest < 18446744073709551616
in_room scan rest h = let a = h.read.at in let b = h.room in omega arith

pub in_on : (scan next : Scan) (rest : List ℕ) (fed : Fed) → (h : IsIn scan rest) → Feeds h.text h.given rest fed next → IsIn next (drop fed.used rest)
in_on scan next rest fed h f = record {
  text = h.text ++ take fed.used rest;
  given = h.given ++ lent_of next;
  read = f.read;
  room =
      (let a = h.room in
      let b = f.within in
      omega (arith, length-append h.text (take fed.used rest), length-take fed.used rest, length-drop fed.used rest));
}

pub in_through : (scan next : Scan) (rest : List ℕ) (fed : Fed) → (h : IsIn scan rest) → Feeds h.text h.given rest fed next → fed.ready ≡ false → IsReading next
in_through scan next rest fed h f r = record { text = h.text ++ take fed.used rest; given = h.given ++ lent_of next; read = f.read; quiet = (nothing_lent next.lent (sym f.ready ∙ r)).1 }

pub ready_not : (ready : Bool) → not ready ≡ true → ready ≡ false
ready_not true e = cc
ready_not false e = refl

pub rest_of : (s : List ℕ) (n : ℕ) → take (length s - n) (drop n s) ≡ drop n s
rest_of s n = take_all (length s - n) (drop n s) (omega (arith, length-drop n s))

-- with the same handler, and with the same rest
pub midway_at : {S : Type 0} (lends : S → Response → Next → S → Type 0) (root : Root) (scan : Scan) (g : Gathering) (text piece rest : List ℕ) (lent : List Response) (old mid new : S)
    → new ≡ mid → Midway lends root scan g text piece rest lent old mid → Midway lends root scan g text piece rest lent old new
midway_at {S} lends root scan g text piece rest lent old mid new e m = let P : S → Type 0 = λ h. Midway lends root scan g text piece rest lent old h in subst P (sym e) m

pub midway_rest : {S : Type 0} (lends : S → Response → Next → S → Type 0) (root : Root) (scan : Scan) (g : Gathering) (text piece rest left : List ℕ) (lent : List Response) (old new : S)
    → rest ≡ left → Midway lends root scan g text piece rest lent old new → Midway lends root scan g text piece left lent old new
midway_rest lends root scan g text piece rest left lent old new e m = let P : List ℕ → Type 0 = λ z. Midway lends root scan g text piece z lent old new in subst P e m
