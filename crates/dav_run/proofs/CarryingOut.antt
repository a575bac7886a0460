-- Carrying out lines, byte by byte and piece by piece.
use Rattle.std.proofs.Common.{◌≡◌, ◌≢◌, ◌<◌, ◌≤◌, ◌+◌, ℕ, List, [], ◌∷◌, ◌++◌, length, take, drop, get_or, Bool, true, false, MatchBool, if◌then◌else◌, eqb, Some, None, Result, Ok, Err, refl, sym, ◌∙◌, ap, subst, arith, append_assoc, append-nil}
use Rattle.std.proofs.lemmas.Bool.{cond-false, ne_eqb}
use Rattle.std.proofs.lemmas.List.{take-append-drop, take_all, take_more}
use Rattle.dav_machine.specs.Machine.{give, and_then}
use Rattle.dav_machine.specs.Part.{lift}
use Rattle.dav_machine.specs.Log.{any_failed}
use Rattle.dav_machine.proofs.Logs.{any_failed-append, grows_same, grows_then}
use Rattle.dav_machine.proofs.Reaching.{reaches_next, as_reaches}
use Rattle.dav_edge.specs.declared.failed.Failed.{Failed}
use Rattle.dav_edge.specs.Device.{Happened, DeviceLog, Grew, received, given, is_failure}
use Rattle.dav_edge.specs.Whole.{DoesOn, Sends}
use Rattle.dav_edge.proofs.Taking.{given-append}
use Rattle.dav_deeds.specs.declared.fault.DeskFault.{DeskFault}
use Rattle.dav_desk.specs.declared.desk.Desk.{Desk}
use Rattle.dav_upload.specs.Desks.{DiskView}
use Rattle.dav_run.specs.declared.pending.Pending.{Pending}
use Rattle.dav_run.specs.declared.stop.Halt.{Halt}
use Rattle.dav_run.specs.declared.stop.Halt.TheVariants as halts
use Rattle.dav_run.specs.declared.stop.Stop.{Stop}
use Rattle.dav_run.specs.Stops.{stop_of}
use Rattle.dav_run.specs.declared.stop.Stop.TheVariants as stops
use Rattle.dav_run.specs.Answering.{DoesDesk}
use Rattle.dav_run.specs.Devices.{all, AllGrew, the_sink, the_desk, RunMachine}
use Rattle.dav_run.specs.Line.{without_return, IsNoPut}
use Rattle.dav_run.specs.Pending.{Holds}
use Rattle.dav_run.specs.Shell.{State, Lined, lined, Lines, Carried, written, writes, Carries, AtEnd, Shell, goes_on}
use Rattle.dav_run.specs.Carrying.{line_at, ReachesHere, DoesHere, CarriesOn, ReadsPiece, HeardEnd, IsHeard, ReadsAll, EndsOn}
use Rattle.dav_run.proofs.Joining.{all_then, all_same, on_sink, on_desk}
use Rattle.dav_run.proofs.LastLines.{end_heard}

-- a line and its answer

pub without_return-ended : (front : List ℕ) → without_return (front ++ 13 ∷ []) ≡ front
without_return-ended [] = refl
without_return-ended (b ∷ []) = refl
without_return-ended (b ∷ c ∷ front) = ap (λ (l : List ℕ). b ∷ l) (without_return-ended (c ∷ front))

pub without_return-none : (bytes : List ℕ) → ((front : List ℕ) → bytes ≢ front ++ 13 ∷ []) → without_return bytes ≡ bytes
without_return-none [] none = refl
without_return-none (b ∷ []) none = cond-false (eqb b 13) [] (b ∷ []) (ne_eqb b 13 (λ is. none [] (ap (λ (x : ℕ). x ∷ []) is)))
without_return-none (b ∷ c ∷ bytes) none = ap (λ (l : List ℕ). b ∷ l) (without_return-none (c ∷ bytes) (λ front is. none (b ∷ front) (ap (λ (l : List ℕ). b ∷ l) is)))

without_return_shorter : (bytes : List ℕ) → length bytes ≤ length (without_return bytes) + 1
without_return_shorter [] = omega arith
without_return_shorter (b ∷ []) =
    elim (eqb b 13) as (λ r. length (b ∷ []) ≤ length (if r then [] else b ∷ []) + 1) [ true ↦ omega arith | false ↦ omega arith ]
without_return_shorter (b ∷ c ∷ bytes) = let h = without_return_shorter (c ∷ bytes) in omega arith

line_length : (fed : Bool) (begun : List ℕ) → 65536 < length begun → 65536 ≤ length (line_at fed begun)
line_length true begun long = let h = without_return_shorter begun in omega arith
line_length false begun long = omega arith

-- a line that is longer than a command can be
pub long_line : (fed : Bool) (begun : List ℕ) → 65536 < length begun → line_at fed begun ≢ []
long_line fed begun long none = let enough = line_length fed begun long in let h : length (line_at fed begun) ≡ 0 = ap length none in absurd (omega arith)

pub long_no_put : (st : State) (fed : Bool) (begun : List ℕ) → 65536 < length begun → IsNoPut st.current (line_at fed begun)
long_no_put st fed begun long path bytes put = let enough = line_length fed begun long in let h = put.short in absurd (omega arith)

module _ {D : Type 0} (view : DiskView D) where
  here_then : {R : Type 0} (o p q : DeviceLog) (x y z : Desk D) (f g h : RunMachine R) → ReachesHere view o p x y f g → ReachesHere view p q y z g h → ReachesHere view o q x z f h
  here_then o p q x y z f g h one two = λ wire. all_then view o p q wire wire wire x y z f g h (one wire) (two wire)

  here_same : {R : Type 0} (o : DeviceLog) (x : Desk D) (f : RunMachine R) → ReachesHere view o o x x f f
  here_same o x f = λ wire. all_same view o wire x f

  abbrev wrote_as : Lined → RunMachine Carried
  wrote_as l = writes l.printed l.now l.fault

  -- a line is carried out on the desk, and what it prints is written
  line_then : (o p : DeviceLog) (x y : Desk D) (line : List ℕ) (before : State) (l : Lined) (r : Carried) → DoesDesk view x y (Lines before line) l → DoesHere view o p y y (wrote_as l) r
      → DoesHere view o p x y (Carries line before) r
  line_then o p x y line before l r one two = λ wire.
      all_then view o o p wire wire wire x y y (Carries line before) (wrote_as l) (give all r)
      (reaches_next all (AllGrew view o o wire wire x y) (lift the_desk (Lines before line)) l wrote_as (on_desk view o wire x y (Lines before line) l one))
      (two wire)

  -- the answer was written, or the sink failed in it
  pub carried : (o p : DeviceLog) (x y : Desk D) (line printed text : List ℕ) (before now later : State) (went : Bool) → DoesDesk view x y (Lines before line) (lined printed now None) → text ≡ printed
      → (written now went).1 ≡ later → DoesOn o p (Sends text) went → CarriesOn view o p x y line before later (written now went).0
  carried o p x y line printed text before now later went one is counts sent =
      let l = lined printed now None in
      subst (λ (s : State). CarriesOn view o p x y line before s (written now went).0) counts
      (line_then o p x y line before l (written now went) one
      (λ wire. reaches_next all (AllGrew view o p wire wire y y) (lift the_sink (Sends printed)) went (λ w. give all (written now w))
      (on_sink view o p wire y (Sends printed) went (subst (λ (t : List ℕ). DoesOn o p (Sends t) went) is sent))))

  -- the desk was stopped in the line
  pub stopped : (o : DeviceLog) (x y : Desk D) (line : List ℕ) (before now : State) (fault : DeskFault) → DoesDesk view x y (Lines before line) (lined [] now (Some fault))
      → CarriesOn view o o x y line before now (Err (halts.Desk fault))
  stopped o x y line before now fault one =
      let r : Carried = (Err (halts.Desk fault), now) in
      line_then o o x y line before (lined [] now (Some fault)) r one (here_same o y (give all r))

  -- a byte that ends no line
  pub reads_byte : (o : DeviceLog) (x : Desk D) (byte : ℕ) (begun : List ℕ) (pending : Pending) (s : State) → eqb byte 10 ≡ false → Holds pending (begun ++ byte ∷ [])
      → ReadsPiece view o o x x (byte ∷ []) begun pending s s (Ok tt)
  unfolding Shell
  reads_byte o x byte begun pending s is holds = (
    begun ++ byte ∷ [],
    holds,
    λ more failed.
        let after = Shell more failed (begun ++ byte ∷ []) s in λ wire.
        as_reaches all (AllGrew view o o wire wire x x) after after (Shell (byte ∷ more) failed begun s)
        (λ answers run does. subst (λ (r : Bool). MatchBool r (and_then all (Carries (without_return begun) s) (goes_on (λ now. Shell more failed [] now)) answers run) (after answers run)) (sym is) does)
        (all_same view o wire x after),
  )

  fed_reaches : (o p : DeviceLog) (x y : Desk D) (byte : ℕ) (begun : List ℕ) (s t : State) (went : Result (Unit {0}) Halt) (more : List ℕ) (failed : Bool) → eqb byte 10 ≡ true
      → CarriesOn view o p x y (without_return begun) s t went → ReachesHere view o p x y (Shell (byte ∷ more) failed begun s) (goes_on (λ now. Shell more failed [] now) (went, t))
  unfolding Shell
  fed_reaches o p x y byte begun s t went more failed is one = λ wire.
      let next : Carried → RunMachine (Stop × State) = goes_on (λ now. Shell more failed [] now) in
      as_reaches all (AllGrew view o p wire wire x y) (and_then all (Carries (without_return begun) s) next) (next (went, t)) (Shell (byte ∷ more) failed begun s)
      (λ answers run does. subst (λ (r : Bool). MatchBool r (and_then all (Carries (without_return begun) s) next answers run) (Shell more failed (begun ++ byte ∷ []) s answers run)) (sym is) does)
      (reaches_next all (AllGrew view o p wire wire x y) (Carries (without_return begun) s) (went, t) next (one wire))

  -- a line feed
  pub reads_feed : (o p : DeviceLog) (x y : Desk D) (byte : ℕ) (begun : List ℕ) (pending : Pending) (s t : State) (went : Result (Unit {0}) Halt) → eqb byte 10 ≡ true → Holds pending []
      → CarriesOn view o p x y (without_return begun) s t went → ReadsPiece view o p x y (byte ∷ []) begun pending s t went
  reads_feed o p x y byte begun pending s t (Ok done) is holds one = ([], holds, λ more failed. fed_reaches o p x y byte begun s t (Ok done) more failed is one)
  reads_feed o p x y byte begun pending s t (Err halt) is holds one = λ more failed. fed_reaches o p x y byte begun s t (Err halt) more failed is one

  -- pieces

  pub reads_none : (o : DeviceLog) (x : Desk D) (begun : List ℕ) (pending : Pending) (s : State) → Holds pending begun → ReadsPiece view o o x x [] begun pending s s (Ok tt)
  reads_none o x begun pending s holds = (begun, holds, λ more failed. here_same o x (Shell more failed begun s))

  pub reads_then : (a b c : DeviceLog) (x y z : Desk D) (xs ys begun : List ℕ) (p q : Pending) (s t u : State) (done : Unit {0}) (went : Result (Unit {0}) Halt) → ReadsPiece view a b x y xs begun p s t (Ok done)
      → ((line : List ℕ) → Holds p line → ReadsPiece view b c y z ys line q t u went) → ReadsPiece view a c x z (xs ++ ys) begun q s u went
  reads_then a b c x y z xs ys begun p q s t u done (Ok more_done) one then_two =
      let two = then_two one.0 one.1 in (
        two.0,
        two.1,
        λ more failed. subst (λ (l : List ℕ). ReachesHere view a c x z (Shell l failed begun s) (Shell more failed two.0 u)) (sym (append_assoc xs ys more))
            (here_then a b c x y z (Shell (xs ++ (ys ++ more)) failed begun s) (Shell (ys ++ more) failed one.0 t) (Shell more failed two.0 u) (one.2 (ys ++ more) failed) (two.2 more failed)),
      )
  reads_then a b c x y z xs ys begun p q s t u done (Err halt) one then_two =
      let two = then_two one.0 one.1 in
      λ more failed. subst (λ (l : List ℕ). DoesHere view a c x z (Shell l failed begun s) (stop_of halt, u)) (sym (append_assoc xs ys more))
      (here_then a b c x y z (Shell (xs ++ (ys ++ more)) failed begun s) (Shell (ys ++ more) failed one.0 t) (give all (stop_of halt, u)) (one.2 (ys ++ more) failed) (two more failed))

  reads_rest : (a b : DeviceLog) (x y : Desk D) (xs ys begun : List ℕ) (p : Pending) (s t : State) (halt : Halt) → ReadsPiece view a b x y xs begun p s t (Err halt) → ReadsPiece view a b x y (xs ++ ys) begun p s t (Err halt)
  reads_rest a b x y xs ys begun p s t halt one = λ more failed.
      subst (λ (l : List ℕ). DoesHere view a b x y (Shell l failed begun s) (stop_of halt, t)) (sym (append_assoc xs ys more)) (one (ys ++ more) failed)

  pub reads_more : (a b c : DeviceLog) (x y z : Desk D) (xs begun : List ℕ) (i : ℕ) (p q : Pending) (s t u : State) (done : Unit {0}) (went : Result (Unit {0}) Halt) → i < length xs → ReadsPiece view a b x y (take i xs) begun p s t (Ok done)
      → ((line : List ℕ) → Holds p line → ReadsPiece view b c y z (get_or xs i 0 ∷ []) line q t u went) → ReadsPiece view a c x z (take (i + 1) xs) begun q s u went
  reads_more a b c x y z xs begun i p q s t u done went inside one then_two =
      subst (λ (l : List ℕ). ReadsPiece view a c x z l begun q s u went) (sym (take_more xs i 0 inside))
      (reads_then a b c x y z (take i xs) (get_or xs i 0 ∷ []) begun p q s t u done went one then_two)

  pub reads_stop : (a b c : DeviceLog) (x y z : Desk D) (xs begun : List ℕ) (i : ℕ) (p q : Pending) (s t u : State) (done : Unit {0}) (halt : Halt) → i < length xs → ReadsPiece view a b x y (take i xs) begun p s t (Ok done)
      → ((line : List ℕ) → Holds p line → ReadsPiece view b c y z (get_or xs i 0 ∷ []) line q t u (Err halt)) → ReadsPiece view a c x z xs begun q s u (Err halt)
  reads_stop a b c x y z xs begun i p q s t u done halt inside one then_two =
      subst (λ (l : List ℕ). ReadsPiece view a c x z l begun q s u (Err halt)) (take-append-drop (i + 1) xs)
      (reads_rest a c x z (take (i + 1) xs) (drop (i + 1) xs) begun q s u halt (reads_more a b c x y z xs begun i p q s t u done (Err halt) inside one then_two))

  pub reads_all : (a b : DeviceLog) (x y : Desk D) (xs begun : List ℕ) (i : ℕ) (p : Pending) (s t : State) (done : Unit {0}) → length xs ≤ i → ReadsPiece view a b x y (take i xs) begun p s t (Ok done) → ReadsPiece view a b x y xs begun p s t (Ok done)
  reads_all a b x y xs begun i p s t done over one = subst (λ (l : List ℕ). ReadsPiece view a b x y l begun p s t (Ok done)) (take_all i xs over) one

  -- the end of the input

  pub ends_empty : (a : DeviceLog) (x : Desk D) (begun : List ℕ) (s : State) → begun ≡ [] → EndsOn view a a x x begun s s stops.End
  ends_empty a x begun s is = subst (λ (l : List ℕ). EndsOn view a a x x l s s stops.End) (sym is) (here_same a x (give all (stops.End, s)))

  -- why the shell stops behind the last line
  abbrev pub last_stop : Result (Unit {0}) Halt → Stop
  last_stop (Ok done) = stops.End
  last_stop (Err halt) = stop_of halt

  pub ends_carried : (a b : DeviceLog) (x y : Desk D) (begun : List ℕ) (s t : State) (went : Result (Unit {0}) Halt) → begun ≢ [] → CarriesOn view a b x y begun s t went → EndsOn view a b x y begun s t (last_stop went)
  ends_carried a b x y [] s t went some one = absurd (some refl)
  ends_carried a b x y (c ∷ begun) s t (Ok done) some one = λ wire.
      reaches_next all (AllGrew view a b wire wire x y) (Carries (c ∷ begun) s) (Ok done, t) (goes_on (λ now. give all (stops.End, now))) (one wire)
  ends_carried a b x y (c ∷ begun) s t (Err halt) some one = λ wire.
      reaches_next all (AllGrew view a b wire wire x y) (Carries (c ∷ begun) s) (Err halt, t) (goes_on (λ now. give all (stops.End, now))) (one wire)

-- the source

-- what was given once a piece more came
given_more : (es : List Happened) (room n : ℕ) (buf : List ℕ) → given es ++ take n buf ≡ given (es ++ received room buf (Ok n) ∷ [])
given_more es room n buf = ap (λ (l : List ℕ). given es ++ l) (sym (append-nil (take n buf))) ∙ sym (given-append es (received room buf (Ok n) ∷ []))

given_failed : (es : List Happened) (room : ℕ) (buf : List ℕ) (f : Failed) → given es ≡ given (es ++ received room buf (Err f) ∷ [])
given_failed es room buf f = sym (append-nil (given es)) ∙ sym (given-append es (received room buf (Err f) ∷ []))

heard_by : (stop : Stop) (heard : List Happened) → stop ≢ stops.Input → HeardEnd heard → IsHeard stop heard
heard_by stops.End heard other ended = ended
heard_by stops.Input heard other ended = absurd (other refl)
heard_by stops.Output heard other ended = end_heard heard ended
heard_by (stops.Desk fault) heard other ended = end_heard heard ended

-- where the shell stops in a line, the source went well
heard_in : (halt : Halt) (heard : List Happened) → any_failed is_failure heard ≡ false → IsHeard (stop_of halt) heard
heard_in halts.Output heard fine = fine
heard_in (halts.Desk fault) heard fine = fine

-- the source gave some bytes without a failure, and they were read
pub record ReadsSome {D : Type 0} (view : DiskView D) (s0 s1 a b : DeviceLog) (x y : Desk D) (pending : Pending) (s t : State) : Type 0 where
  pub heard : List Happened
  pub gave : Grew s0 s1 heard
  pub unfailed : any_failed is_failure heard ≡ false
  pub reads : ReadsPiece view a b x y (given heard) [] pending s t (Ok tt)

module _ {D : Type 0} (view : DiskView D) where
  pub some_none : (s0 a : DeviceLog) (x : Desk D) (pending : Pending) (s : State) → Holds pending [] → ReadsSome view s0 s0 a a x x pending s s
  some_none s0 a x pending s holds = record { heard = []; gave = grows_same is_failure s0; unfailed = refl; reads = reads_none view a x [] pending s holds }

  pub some_more : (s0 s1 s2 a b c : DeviceLog) (x y z : Desk D) (p q : Pending) (s t u : State) (room n : ℕ) (buf piece : List ℕ) → piece ≡ take n buf → ReadsSome view s0 s1 a b x y p s t
      → Grew s1 s2 (received room buf (Ok n) ∷ []) → ((line : List ℕ) → Holds p line → ReadsPiece view b c y z piece line q t u (Ok tt)) → ReadsSome view s0 s2 a c x z q s u
  some_more s0 s1 s2 a b c x y z p q s t u room n buf piece is one grew then_two = record {
    heard = one.heard ++ received room buf (Ok n) ∷ [];
    gave = grows_then is_failure s0 s1 s2 one.heard (received room buf (Ok n) ∷ []) one.gave grew;
    unfailed = any_failed-append is_failure one.heard (received room buf (Ok n) ∷ []) one.unfailed;
    reads = subst (λ (l : List ℕ). ReadsPiece view a c x z l [] q s u (Ok tt)) (ap (λ (l : List ℕ). given one.heard ++ l) is ∙ given_more one.heard room n buf)
        (reads_then view a b c x y z (given one.heard) piece [] p q s t u tt (Ok tt) one.reads then_two);
  }

  -- the shell stopped in a piece
  pub all_stopped : (s0 s1 s2 a b c : DeviceLog) (x y z : Desk D) (p q : Pending) (s t u : State) (room n : ℕ) (buf piece : List ℕ) (halt : Halt) → piece ≡ take n buf → ReadsSome view s0 s1 a b x y p s t
      → Grew s1 s2 (received room buf (Ok n) ∷ []) → ((line : List ℕ) → Holds p line → ReadsPiece view b c y z piece line q t u (Err halt)) → ReadsAll view s0 s2 a c x z s u (stop_of halt)
  all_stopped s0 s1 s2 a b c x y z p q s t u room n buf piece halt is one grew then_two =
      let heard : List Happened = one.heard ++ received room buf (Ok n) ∷ [] in
      let read = reads_then view a b c x y z (given one.heard) piece [] p q s t u tt (Err halt) one.reads then_two in
      record {
        heard = heard;
        gave = grows_then is_failure s0 s1 s2 one.heard (received room buf (Ok n) ∷ []) one.gave grew;
        does = subst (λ (l : List ℕ). DoesHere view a c x z (Shell l (any_failed is_failure heard) [] s) (stop_of halt, u))
            (append-nil (given one.heard ++ piece) ∙ ap (λ (l : List ℕ). given one.heard ++ l) is ∙ given_more one.heard room n buf)
            (read [] (any_failed is_failure heard));
        ended = heard_in halt heard (any_failed-append is_failure one.heard (received room buf (Ok n) ∷ []) one.unfailed);
      }

  at_end : (a b c : DeviceLog) (x y z : Desk D) (bytes : List ℕ) (p : Pending) (s t u : State) (failed : Bool) (stop : Stop) → ReadsPiece view a b x y bytes [] p s t (Ok tt)
      → ((line : List ℕ) → Holds p line → DoesHere view b c y z (AtEnd failed line t) (stop, u)) → DoesHere view a c x z (Shell bytes failed [] s) (stop, u)
  unfolding Shell
  at_end a b c x y z bytes p s t u failed stop one then_two =
      subst (λ (l : List ℕ). DoesHere view a c x z (Shell l failed [] s) (stop, u)) (append-nil bytes)
      (here_then view a b c x y z (Shell (bytes ++ []) failed [] s) (Shell [] failed one.0 t) (give all (stop, u)) (one.2 [] failed) (then_two one.0 one.1))

  -- the input came to its end
  pub all_read : (s0 s1 s2 a b c : DeviceLog) (x y z : Desk D) (p : Pending) (s t u : State) (room n : ℕ) (buf : List ℕ) (stop : Stop) → 0 < room → n ≡ 0 → stop ≢ stops.Input → ReadsSome view s0 s1 a b x y p s t
      → Grew s1 s2 (received room buf (Ok n) ∷ []) → ((line : List ℕ) → Holds p line → EndsOn view b c y z line t u stop) → ReadsAll view s0 s2 a c x z s u stop
  all_read s0 s1 s2 a b c x y z p s t u room n buf stop roomy none other one grew then_two =
      let heard : List Happened = one.heard ++ received room buf (Ok n) ∷ [] in
      let bytes : given one.heard ≡ given heard = sym (append-nil (given one.heard)) ∙ ap (λ (k : ℕ). given one.heard ++ take k buf) (sym none) ∙ given_more one.heard room n buf in
      let unfailed = any_failed-append is_failure one.heard (received room buf (Ok n) ∷ []) one.unfailed in
      record {
        heard = heard;
        gave = grows_then is_failure s0 s1 s2 one.heard (received room buf (Ok n) ∷ []) one.gave grew;
        does = subst (λ (l : List ℕ). DoesHere view a c x z (Shell l (any_failed is_failure heard) [] s) (stop, u)) bytes
            (subst (λ (f : Bool). DoesHere view a c x z (Shell (given one.heard) f [] s) (stop, u)) (sym unfailed)
            (at_end a b c x y z (given one.heard) p s t u false stop one.reads then_two));
        ended = heard_by stop heard other (record {
          earlier = one.heard;
          room = room;
          some_room = roomy;
          fine = one.unfailed;
          last = ap (λ (k : ℕ). one.heard ++ received room buf (Ok k) ∷ []) none;
        });
      }

  -- the source failed
  pub all_failed : (s0 s1 s2 a b : DeviceLog) (x y : Desk D) (p : Pending) (s t : State) (room : ℕ) (buf : List ℕ) (f : Failed) → ReadsSome view s0 s1 a b x y p s t
      → Grew s1 s2 (received room buf (Err f) ∷ []) → ReadsAll view s0 s2 a b x y s t stops.Input
  all_failed s0 s1 s2 a b x y p s t room buf f one grew =
      let heard : List Happened = one.heard ++ received room buf (Err f) ∷ [] in
      let failed = any_failed-append is_failure one.heard (received room buf (Err f) ∷ []) one.unfailed in
      record {
        heard = heard;
        gave = grows_then is_failure s0 s1 s2 one.heard (received room buf (Err f) ∷ []) one.gave grew;
        does = subst (λ (l : List ℕ). DoesHere view a b x y (Shell l (any_failed is_failure heard) [] s) (stops.Input, t)) (given_failed one.heard room buf f)
            (subst (λ (g : Bool). DoesHere view a b x y (Shell (given one.heard) g [] s) (stops.Input, t)) (sym failed)
            (at_end a b b x y y (given one.heard) p s t t true stops.Input one.reads (λ line holds. here_same view b y (give all (stops.Input, t)))));
        ended = record { earlier = one.heard; room = room; fine = one.unfailed; last = refl };
      }
