use Rattle.std.proofs.Common.{◌≡◌, ◌+◌, ◌≤◌, length, refl, sym, ◌∙◌, ap, arith}
use Rattle.dav_disk.specs.Disk.{settled}
use Rattle.dav_disk.proofs.Stretch.{leaves_begin, leaves_goes, leaves_stays, doubt_now}
use Rattle.dav_store.specs.Rows.{IsBeforeOrAfter}
use Rattle.dav_store.proofs.Adding.{rests, writes, written, syncs, opens, opened, ends, rests_again, at_rest_length}
use Rattle.dav_store.proofs.gate.open_row.Goals as goal

pub returns-in_err-write_at-clause-any_moment : goal.returns-in_err-write_at-clause-any_moment
returns-in_err-write_at-clause-any_moment g c h rows row fits made r =
    let h0 = c.write_at.ensures.keeps h in
    let d0 = c.args.disk.now in
    let s0 = g.D.Disk.seen d0 0 in
    let p0 = g.D.Disk.past d0 (g.D.Disk.moment d0) 0 in
    let end = c.args.gate in
    let text = c.args.text.now in
    let behind : c.saturating_add-behind.result ≡ end + 1 = omega (arith, c.saturating_add-behind.ensures, g.met.D.Disk.fits d0 h0 0, at_rest_length r) in
    let none = leaves_begin (g.D.Disk.past d0) 0 (g.D.Disk.moment d0) (IsBeforeOrAfter rows row) (rests rows row fits end s0 p0 r) in
    let one = leaves_goes none (c.write_at.ensures.time h) (writes rows row fits end s0 p0 r c.saturating_add-behind.result (length text) behind) in
    one

pub returns-in_err-sync-clause-any_moment : goal.returns-in_err-sync-clause-any_moment
returns-in_err-sync-clause-any_moment g c h rows row fits made r =
    let h1 = c.sync.ensures.keeps h in
    let h0 = c.write_at.ensures.keeps h1 in
    let d0 = c.args.disk.now in
    let s0 = g.D.Disk.seen d0 0 in
    let p0 = g.D.Disk.past d0 (g.D.Disk.moment d0) 0 in
    let end = c.args.gate in
    let text = c.args.text.now in
    let behind : c.saturating_add-behind.result ≡ end + 1 = omega (arith, c.saturating_add-behind.ensures, g.met.D.Disk.fits d0 h0 0, at_rest_length r) in
    let none = leaves_begin (g.D.Disk.past d0) 0 (g.D.Disk.moment d0) (IsBeforeOrAfter rows row) (rests rows row fits end s0 p0 r) in
    let one = leaves_goes none (c.write_at.ensures.time h1) (writes rows row fits end s0 p0 r c.saturating_add-behind.result (length text) behind) in
    leaves_stays (c.write_at.ensures.time h1).later one (c.in_err-sync.ensures.failed h refl)

pub returns-in_err-write_at-2-clause-any_moment : goal.returns-in_err-write_at-2-clause-any_moment
returns-in_err-write_at-2-clause-any_moment g c h rows row fits made r =
    let h2 = c.write_at-2.ensures.keeps h in
    let h1 = c.sync.ensures.keeps h2 in
    let h0 = c.write_at.ensures.keeps h1 in
    let d0 = c.args.disk.now in
    let s0 = g.D.Disk.seen d0 0 in
    let p0 = g.D.Disk.past d0 (g.D.Disk.moment d0) 0 in
    let end = c.args.gate in
    let text = c.args.text.now in
    let behind : c.saturating_add-behind.result ≡ end + 1 = omega (arith, c.saturating_add-behind.ensures, g.met.D.Disk.fits d0 h0 0, at_rest_length r) in
    let none = leaves_begin (g.D.Disk.past d0) 0 (g.D.Disk.moment d0) (IsBeforeOrAfter rows row) (rests rows row fits end s0 p0 r) in
    let one = leaves_goes none (c.write_at.ensures.time h1) (writes rows row fits end s0 p0 r c.saturating_add-behind.result (length text) behind) in
    let s1 = g.D.Disk.seen c.write_at.new.self 0 in
    let is1 = written rows row fits end s0 p0 r c.saturating_add-behind.result text s1 behind made (c.in_ok-write_at.ensures.written h1) in
    let s2 = g.D.Disk.seen c.sync.new.self 0 in
    let same2 : s2 ≡ s1 = c.sync.ensures.seen h2 0 in
    let is2 = same2 ∙ is1 in
    let p2 = g.D.Disk.past c.sync.new.self (g.D.Disk.moment c.sync.new.self) 0 in
    let settles2 = c.in_ok-sync.ensures.durable h2 in
    let durable2 : p2 ≡ settled s2 = doubt_now settles2 c.in_ok-sync.ensures.counts.one_more ∙ ap settled (sym same2) in
    let two = leaves_goes one settles2 (syncs rows row fits end s0 p0 r s1 is1) in
    let three = leaves_goes two (c.write_at-2.ensures.time h) (opens rows row fits end s0 p0 r s2 p2 is2 durable2) in
    three

pub returns-in_err-sync-2-clause-any_moment : goal.returns-in_err-sync-2-clause-any_moment
returns-in_err-sync-2-clause-any_moment g c h rows row fits made r =
    let h3 = c.sync-2.ensures.keeps h in
    let h2 = c.write_at-2.ensures.keeps h3 in
    let h1 = c.sync.ensures.keeps h2 in
    let h0 = c.write_at.ensures.keeps h1 in
    let d0 = c.args.disk.now in
    let s0 = g.D.Disk.seen d0 0 in
    let p0 = g.D.Disk.past d0 (g.D.Disk.moment d0) 0 in
    let end = c.args.gate in
    let text = c.args.text.now in
    let behind : c.saturating_add-behind.result ≡ end + 1 = omega (arith, c.saturating_add-behind.ensures, g.met.D.Disk.fits d0 h0 0, at_rest_length r) in
    let none = leaves_begin (g.D.Disk.past d0) 0 (g.D.Disk.moment d0) (IsBeforeOrAfter rows row) (rests rows row fits end s0 p0 r) in
    let one = leaves_goes none (c.write_at.ensures.time h1) (writes rows row fits end s0 p0 r c.saturating_add-behind.result (length text) behind) in
    let s1 = g.D.Disk.seen c.write_at.new.self 0 in
    let is1 = written rows row fits end s0 p0 r c.saturating_add-behind.result text s1 behind made (c.in_ok-write_at.ensures.written h1) in
    let s2 = g.D.Disk.seen c.sync.new.self 0 in
    let same2 : s2 ≡ s1 = c.sync.ensures.seen h2 0 in
    let is2 = same2 ∙ is1 in
    let p2 = g.D.Disk.past c.sync.new.self (g.D.Disk.moment c.sync.new.self) 0 in
    let settles2 = c.in_ok-sync.ensures.durable h2 in
    let durable2 : p2 ≡ settled s2 = doubt_now settles2 c.in_ok-sync.ensures.counts.one_more ∙ ap settled (sym same2) in
    let two = leaves_goes one settles2 (syncs rows row fits end s0 p0 r s1 is1) in
    let three = leaves_goes two (c.write_at-2.ensures.time h3) (opens rows row fits end s0 p0 r s2 p2 is2 durable2) in
    let later1 = (c.write_at.ensures.time h1).later in
    let later : g.D.Disk.moment d0 ≤ g.D.Disk.moment c.write_at-2.new.self = omega (arith, later1, settles2.later, (c.write_at-2.ensures.time h3).later) in
    leaves_stays later three (c.in_err-sync-2.ensures.failed h refl)

pub returns-clause-any_moment : goal.returns-clause-any_moment
returns-clause-any_moment g c h rows row fits made r =
    let h3 = c.sync-2.ensures.keeps h in
    let h2 = c.write_at-2.ensures.keeps h3 in
    let h1 = c.sync.ensures.keeps h2 in
    let h0 = c.write_at.ensures.keeps h1 in
    let d0 = c.args.disk.now in
    let s0 = g.D.Disk.seen d0 0 in
    let p0 = g.D.Disk.past d0 (g.D.Disk.moment d0) 0 in
    let end = c.args.gate in
    let text = c.args.text.now in
    let behind : c.saturating_add-behind.result ≡ end + 1 = omega (arith, c.saturating_add-behind.ensures, g.met.D.Disk.fits d0 h0 0, at_rest_length r) in
    let none = leaves_begin (g.D.Disk.past d0) 0 (g.D.Disk.moment d0) (IsBeforeOrAfter rows row) (rests rows row fits end s0 p0 r) in
    let one = leaves_goes none (c.write_at.ensures.time h1) (writes rows row fits end s0 p0 r c.saturating_add-behind.result (length text) behind) in
    let s1 = g.D.Disk.seen c.write_at.new.self 0 in
    let is1 = written rows row fits end s0 p0 r c.saturating_add-behind.result text s1 behind made (c.in_ok-write_at.ensures.written h1) in
    let s2 = g.D.Disk.seen c.sync.new.self 0 in
    let same2 : s2 ≡ s1 = c.sync.ensures.seen h2 0 in
    let is2 = same2 ∙ is1 in
    let p2 = g.D.Disk.past c.sync.new.self (g.D.Disk.moment c.sync.new.self) 0 in
    let settles2 = c.in_ok-sync.ensures.durable h2 in
    let durable2 : p2 ≡ settled s2 = doubt_now settles2 c.in_ok-sync.ensures.counts.one_more ∙ ap settled (sym same2) in
    let two = leaves_goes one settles2 (syncs rows row fits end s0 p0 r s1 is1) in
    let three = leaves_goes two (c.write_at-2.ensures.time h3) (opens rows row fits end s0 p0 r s2 p2 is2 durable2) in
    let s3 = g.D.Disk.seen c.write_at-2.new.self 0 in
    let is3 = opened rows row fits end s0 p0 r s2 s3 is2 (c.in_ok-write_at-2.ensures.written h3) in
    let settles4 = c.in_ok-sync-2.ensures.durable h in
    leaves_goes three settles4 (ends rows row fits end s0 p0 r s3 is3)

pub returns-clause-added : goal.returns-clause-added
returns-clause-added g c h rows row fits made r =
    let h3 = c.sync-2.ensures.keeps h in
    let h2 = c.write_at-2.ensures.keeps h3 in
    let h1 = c.sync.ensures.keeps h2 in
    let h0 = c.write_at.ensures.keeps h1 in
    let d0 = c.args.disk.now in
    let s0 = g.D.Disk.seen d0 0 in
    let p0 = g.D.Disk.past d0 (g.D.Disk.moment d0) 0 in
    let end = c.args.gate in
    let text = c.args.text.now in
    let behind : c.saturating_add-behind.result ≡ end + 1 = omega (arith, c.saturating_add-behind.ensures, g.met.D.Disk.fits d0 h0 0, at_rest_length r) in
    let s1 = g.D.Disk.seen c.write_at.new.self 0 in
    let is1 = written rows row fits end s0 p0 r c.saturating_add-behind.result text s1 behind made (c.in_ok-write_at.ensures.written h1) in
    let s2 = g.D.Disk.seen c.sync.new.self 0 in
    let same2 : s2 ≡ s1 = c.sync.ensures.seen h2 0 in
    let is2 = same2 ∙ is1 in
    let p2 = g.D.Disk.past c.sync.new.self (g.D.Disk.moment c.sync.new.self) 0 in
    let settles2 = c.in_ok-sync.ensures.durable h2 in
    let durable2 : p2 ≡ settled s2 = doubt_now settles2 c.in_ok-sync.ensures.counts.one_more ∙ ap settled (sym same2) in
    let s3 = g.D.Disk.seen c.write_at-2.new.self 0 in
    let is3 = opened rows row fits end s0 p0 r s2 s3 is2 (c.in_ok-write_at-2.ensures.written h3) in
    let settles4 = c.in_ok-sync-2.ensures.durable h in
    let s4 = g.D.Disk.seen c.sync-2.new.self 0 in
    let same4 : s4 ≡ s3 = c.sync-2.ensures.seen h 0 in
    let p4 = g.D.Disk.past c.sync-2.new.self (g.D.Disk.moment c.sync-2.new.self) 0 in
    let durable4 : p4 ≡ settled s4 = doubt_now settles4 c.in_ok-sync-2.ensures.counts.one_more ∙ ap settled (sym same4) in
    rests_again rows row fits end s0 p0 r s4 p4 (same4 ∙ is3) durable4
