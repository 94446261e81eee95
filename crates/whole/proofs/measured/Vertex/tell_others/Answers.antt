-- One attribute after the other.
use Rattle.whole.proofs.Tens.{moves_told, moves_then}
use Rattle.whole.proofs.measured.Vertex.tell_others.Goals as goal

pub returns : goal.returns
returns c =
    let d = c.args.self.now.descriptor in
    let l = c.args.self.now.vertex.now in
    let m1 = moves_told d l 9 c.tell_one-at.ensures in
    let m2 = moves_then d l m1 (moves_told d l 10 c.tell_one-at-2.ensures) in
    let m3 = moves_then d l m2 (moves_told d l 11 c.tell_one-at-3.ensures) in
    let m4 = moves_then d l m3 (moves_told d l 12 c.tell_one-at-4.ensures) in
    let m5 = moves_then d l m4 (moves_told d l 13 c.tell_one-at-5.ensures) in
    let m6 = moves_then d l m5 (moves_told d l 14 c.tell_one-at-6.ensures) in
    let m7 = moves_then d l m6 (moves_told d l 15 c.tell_one-at-7.ensures) in
    let m8 = moves_then d l m7 (moves_told d l 16 c.tell_one-at-8.ensures) in
    let m9 = moves_then d l m8 (moves_told d l 17 c.tell_one-at-9.ensures) in
    let m10 = moves_then d l m9 (moves_told d l 18 c.tell_one-at-10.ensures) in
    let m11 = moves_then d l m10 (moves_told d l 19 c.tell_one-at-11.ensures) in
    moves_then d l m11 (moves_told d l 20 c.tell_one.ensures)
