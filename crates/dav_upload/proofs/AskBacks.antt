-- The requests behind asks of a desk stand behind the steps that the asks are.
use Rattle.std.proofs.Common.{◌≡◌, ◌⊎◌, inl, inr, ℕ, Bool, true, false, if◌then◌else◌, List, [], ◌∷◌, ◌++◌, Option, Some, None, refl, sym, ◌∙◌, ap, subst, append_assoc, append-nil}
use Rattle.dav_edge.specs.Connections.{Connections, connection, with_standing, all_of, after_calls}
use Rattle.dav_edge.specs.Device.{Happened}
use Rattle.dav_uri.specs.Target.{BaseParts}
use Rattle.dav_deeds.specs.Answers.{Kind, Tells, Gives, Idles, Ends, job_by, job_of_kind, kind_of, kind_told, wanted}
use Rattle.dav_deeds.specs.DeskTable.{DeskTable}
use Rattle.dav_deeds.proofs.AllRows.{given_is, job_after}
use Rattle.dav_deeds.proofs.Rows.{job_answered, wanted_told}
use Rattle.dav_deeds.specs.Effects.{after, mark_of, told_of}
use Rattle.dav_deeds.specs.Fate.{tells_sent}
use Rattle.dav_deeds.specs.Legal.{deed_of}
use Rattle.dav_deeds.specs.Made.{answer_by}
use Rattle.dav_deeds.specs.declared.answer.Flight.{Flight}
use Rattle.dav_deeds.specs.declared.answer.Job.{Job}
use Rattle.dav_deeds.specs.declared.answer.Told.{Told}
use Rattle.dav_deeds.specs.declared.deed.Deed.{Deed}
use Rattle.dav_deeds.specs.declared.deed.Mark.{Mark}
use Rattle.dav_deeds.specs.declared.deed.Step.{Step}
use Rattle.dav_deeds.specs.declared.fault.DeskFault.{DeskFault}
use Rattle.dav_desk.specs.Verdict.{Verdict, Went, Stopped, Starved, with_bytes, result_by, steps_by, table_by}
use Rattle.dav_upload.specs.Asking.{Answered, Asked, told_met, answer_met, table_met, steps_met, table_through, steps_through}
use Rattle.dav_upload.specs.Backs.{HasPut, HasPutOf, job_sent, Backs}
use Rattle.dav_upload.specs.Desks.{HasBytesIf}
use Rattle.dav_upload.specs.Exchange.{put_text}
use Rattle.dav_upload.specs.Sent.{bytes_or, bytes_told, step_asked, AsksBacked, AllTold, JobGiven}
use Rattle.dav_upload.proofs.AskSteps.{steps_then}
use Rattle.dav_upload.proofs.Backing.{backs_ahead}

put_again : (base : BaseParts) (given : ℕ → List ℕ) (bytes : List ℕ) (flight : Flight) (events : List Happened) → bytes ≡ given flight.body.file → HasPut base (λ file. bytes) flight events → HasPut base given flight events
put_again base given bytes flight events same put = record {
  earlier = put.earlier;
  calls = put.calls;
  split = put.split;
  received = put.received;
  makes = subst (λ (b : List ℕ). (before : Connections) → after_calls before put.calls
      ≡ with_standing (all_of before ++ connection base.host base.port (put_text base flight.path flight.seen b) put.received ∷ []) None) same put.makes;
  reply = put.reply;
  answered = put.answered;
  success = put.success;
}

job_or_none : (job : Option Flight) (deed : Deed) (mark : Mark) → (job_sent job deed mark ≡ job) ⊎ (job_sent job deed mark ≡ None)
job_or_none job deed mark = by (tells_sent deed mark)
  where
    by : (b : Bool) → ((if b then job else None) ≡ job) ⊎ ((if b then job else None) ≡ None)
    by true = inl refl
    by false = inr refl

put_of_again : (base : BaseParts) (given : ℕ → List ℕ) (bytes : List ℕ) (job : Option Flight) (deed : Deed) (mark : Mark) (events : List Happened) → JobGiven given bytes job → HasPutOf base (λ file. bytes) (job_sent job deed mark) events
    → HasPutOf base given (job_sent job deed mark) events
put_of_again base given bytes job deed mark events same put = by (job_or_none job deed mark)
  where
    whole : (o : Option Flight) → JobGiven given bytes o → HasPutOf base (λ file. bytes) o events → HasPutOf base given o events
    whole None same one = tt
    whole (Some flight) same one = put_again base given bytes flight events same one

    by : (job_sent job deed mark ≡ job) ⊎ (job_sent job deed mark ≡ None) → HasPutOf base given (job_sent job deed mark) events
    by (inl is) = subst (λ (o : Option Flight). HasPutOf base given o events) (sym is) (whole job same (subst (λ (o : Option Flight). HasPutOf base (λ file. bytes) o events) is put))
    by (inr is) = subst (λ (o : Option Flight). HasPutOf base given o events) (sym is) tt

-- the bytes that an answer tells are those of the job in flight then
module _ (given : ℕ → List ℕ) (bytes told : List ℕ) (t : DeskTable) (now : ℕ) (deed : Deed) (same : JobGiven given bytes t.job) where
  abbrev answered : Option Told → Answered
  answered o = with_bytes (answer_by (mark_of t now deed) o) told

  flies : (o : Option Told) (k : Kind) → told_of t now deed ≡ o → kind_told o ≡ k → (after t now deed).job ≡ job_by t.job k
  flies o k is kind = job_after t now deed ∙ ap (λ (p : Option Told). job_by t.job (kind_told p)) is ∙ ap (job_by t.job) kind

  by_kind : (a : Told) (k : Kind) → told_of t now deed ≡ Some a → kind_of a ≡ k → HasBytesIf given (Some a) (answered (Some a)) → JobGiven given (bytes_or bytes (job_of_kind k told)) (job_by t.job k)
  by_kind a Tells is kind has = same
  by_kind a Idles is kind has = same
  by_kind a Ends is kind has = tt
  by_kind a (Gives flight) is kind has =
      let gives = given_is t now deed flight (ap kind_told is ∙ kind) in
      let wants : wanted (Some a) ≡ Some flight.body = ap wanted (sym is ∙ gives.told_is) in
      sym (wanted_told a told flight.body wants) ∙ has flight.body wants

  by_told : (o : Option Told) → told_of t now deed ≡ o → HasBytesIf given o (answered o) → JobGiven given (bytes_told bytes (answered o)) (after t now deed).job
  by_told None is has = subst (JobGiven given bytes) (sym (flies None Tells is refl)) same
  by_told (Some a) is has =
      subst (λ (job : Option Job). JobGiven given (bytes_or bytes job) (after t now deed).job) (sym (job_answered a told))
      (subst (JobGiven given (bytes_or bytes (job_of_kind (kind_of a) told))) (sym (flies (Some a) (kind_of a) is refl)) (by_kind a (kind_of a) is refl has))

  pub deed_given : HasBytesIf given (told_of t now deed) (answered (told_of t now deed)) → JobGiven given (bytes_told bytes (answered (told_of t now deed))) (after t now deed).job
  deed_given has = by_told (told_of t now deed) refl has

job_given : (given : ℕ → List ℕ) (bytes : List ℕ) (t : DeskTable) (e : Asked) → JobGiven given bytes t.job → HasBytesIf given (told_met t e.asked) (answer_met t e.asked e.answer) → JobGiven given (bytes_told bytes (answer_met t e.asked e.answer)) (table_met t e.asked e.answer).job
job_given given bytes t e same has = by e.answer.verdict has
  where
    deed : Deed
    deed = deed_of t e.asked.ask

    by : (v : Verdict) → HasBytesIf given (told_of t e.asked.now deed) (result_by v t e.asked.now e.asked.ask e.answer.bytes) → JobGiven given (bytes_told bytes (result_by v t e.asked.now e.asked.ask e.answer.bytes)) (table_by v t e.asked.now e.asked.ask).job
    by Went h = deed_given given bytes e.answer.bytes t e.asked.now deed same h
    by (Stopped fault) h = same
    by Starved h = same

-- the requests behind asks, with what stands behind the last of them
backs_asked : (base : BaseParts) (given : ℕ → List ℕ) (es more : List Asked) (bytes : List ℕ) (t : DeskTable) (steps : List Step) (up : List Happened) → AsksBacked base bytes t (es ++ more) up → AllTold given t es → JobGiven given bytes t.job
    → ((next : List ℕ) (calls : List Happened) → AsksBacked base next (table_through t es) more calls → JobGiven given next (table_through t es).job → Backs base given (table_through t es) steps calls)
    → Backs base given t (steps_through t es ++ steps) up
backs_asked base given [] more bytes t steps up backed told same last = last bytes up backed same
backs_asked base given (e ∷ es) more bytes t steps up (part, rest, split, put, backed) told same last =
    subst (λ (l : List Step). Backs base given t l up) (sym (append_assoc (steps_met t e.asked e.answer) (steps_through (table_met t e.asked e.answer) es) steps))
    (by e.answer.verdict (steps_through (table_met t e.asked e.answer) es ++ steps)
    (backs_asked base given es more (bytes_told bytes (answer_met t e.asked e.answer)) (table_met t e.asked e.answer) steps rest backed told.1 (job_given given bytes t e same told.0) last))
  where
    ahead : (u : DeskTable) (l : List Step) → Backs base given u l rest → Backs base given u l up
    ahead u l behind = subst (Backs base given u l) (sym split) (backs_ahead base given u l part rest behind)

    by : (v : Verdict) (l : List Step) → Backs base given (table_by v t e.asked.now e.asked.ask) l rest → Backs base given t (steps_by v t e.asked.who e.asked.now e.asked.ask 0 ++ l) up
    by Went l behind =
        steps_then (λ w all. Backs base given w all up) t e.asked.who e.asked.now e.asked.ask 0 l
        (λ stands later. (part, rest, split, put_of_again base given bytes t.job (deed_of t e.asked.ask) (mark_of t e.asked.now (deed_of t e.asked.ask)) part same put, behind))
        (ahead (table_by Went t e.asked.now e.asked.ask) l behind)
    by (Stopped fault) l behind = ahead t l behind
    by Starved l behind = ahead t l behind

pub asks_back : (base : BaseParts) (given : ℕ → List ℕ) (bytes : List ℕ) (t : DeskTable) (asks : List Asked) (events : List Happened) → AsksBacked base bytes t asks events → AllTold given t asks → JobGiven given bytes t.job
    → Backs base given t (steps_through t asks) events
asks_back base given bytes t asks events backed told same =
    subst (λ (l : List Step). Backs base given t l events) (append-nil (steps_through t asks))
    (backs_asked base given asks [] bytes t [] events (subst (λ (es : List Asked). AsksBacked base bytes t es events) (sym (append-nil asks)) backed) told same (λ next calls none given_then. tt))

pub stopped_backs : (base : BaseParts) (given : ℕ → List ℕ) (bytes : List ℕ) (t : DeskTable) (before : List Asked) (stopped : Asked) (since : List Asked) (events : List Happened) → AsksBacked base bytes t (before ++ stopped ∷ since) events → AllTold given t before
    → JobGiven given bytes t.job → Backs base given t (steps_through t before ++ step_asked (table_through t before) stopped ∷ []) events
stopped_backs base given bytes t before stopped since events backed told same =
    let u : DeskTable = table_through t before in
    let s : Step = step_asked u stopped in
    backs_asked base given before (stopped ∷ since) bytes t (step_asked (table_through t before) stopped ∷ []) events backed told same
    (λ next calls here flies. (here.0, here.1, here.2, put_of_again base given next u.job s.deed s.mark here.0 flies here.3, tt))
