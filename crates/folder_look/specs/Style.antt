-- How the page looks.
use Rattle.std.specs.Prelude.{ℕ, List, ◌++◌, codes}

-- the colours, light and dark, and the text
abbrev pub colours : List ℕ
colours =
    (codes ":root{color-scheme:light dark;--ink:#1c2024;--soft:#555e68;--paper:#fff;--line:#d5dae0;--good:#1f7a4d;--open:#8a5200;--bad:#b3261e;--tint:#f3f5f7}\n"
    ++ (codes "@media(prefers-color-scheme:dark){:root{--ink:#e6e9ec;--soft:#a7b0b9;--paper:#15181b;--line:#363c43;--good:#55c08a;--open:#e0a240;--bad:#f08a82;"
    ++ (codes "--tint:#1e2226}}\n"
    ++ (codes "*{box-sizing:border-box}\n"
    ++ (codes "body{margin:0 auto;max-width:1240px;padding:16px;background:var(--paper);color:var(--ink);font:15px/1.45 system-ui,sans-serif;"
    ++ (codes "overflow-wrap:anywhere}\n"
    ++ (codes "h1{font-size:28px;margin:4px 0 12px}h2{font-size:20px;border-bottom:2px solid var(--line);margin:36px 0 10px}h3{font-size:15px;margin:16px 0 4px}\n"
    ++ (codes "p{margin:2px 0}a{color:inherit}summary{cursor:pointer}:target{outline:2px solid var(--open)}\n"
    ++ (codes ".banner{border-left:6px solid var(--bad);background:var(--tint);padding:8px 12px;margin:6px 0;font-weight:600}\n"
    ++ (codes ".tally{display:flex;flex-wrap:wrap;gap:8px}.tally span{background:var(--tint);border-radius:6px;padding:6px 14px;color:var(--soft)}"
    ++ codes ".tally b{display:block;color:var(--ink);font-size:22px}\n"))))))))))

-- tables, and the attempts in them
abbrev pub tables : List ℕ
tables =
    (codes "table{border-collapse:collapse;width:100%;margin:4px 0 12px}th,td{text-align:left;vertical-align:top;padding:4px 12px 4px 0;"
    ++ (codes "border-bottom:1px solid var(--line)}\n"
    ++ (codes "thead th{color:var(--soft);font-size:13px;font-weight:600;overflow-wrap:normal}td p{margin:0}.act th{font-weight:600;padding-top:12px;"
    ++ (codes "border-bottom:0}\n"
    ++ (codes ".act details{font-weight:400;color:var(--soft)}pre{background:var(--tint);color:var(--ink);padding:8px;white-space:pre-wrap;margin:4px 0}\n"
    ++ (codes "td.committed,td.whole{color:var(--good)}td.refused,td.open{color:var(--open)}"
    ++ (codes "td.withdrawn,td.failed,td.expired,td.spent,td.damaged,td.shut{color:var(--bad);font-weight:600}\n"
    ++ (codes ".run th:first-child,.run td:first-child{width:18%}.run td:last-child{width:26%}.run>summary,.more>summary{padding:6px 0;font-weight:600}\n"
    ++ codes "@media(max-width:600px){th,td{padding-right:8px;font-size:13px}}\n"))))))))

-- bars in columns, for histories, attempts and pages
abbrev pub bars : List ℕ
bars =
    (codes ".bars{position:relative;display:block;height:24px}.bars i{position:absolute;top:1px;height:22px;left:calc(var(--a,0)*100%/var(--n));"
    ++ (codes "width:max(3px,calc(var(--w,1)*100%/var(--n) - 2px));overflow:hidden;white-space:nowrap;text-overflow:ellipsis;"
    ++ (codes "font:12px/20px ui-monospace,monospace;padding:0 2px;border-radius:3px;color:var(--ink)}\n"
    ++ (codes ".bars i,.key i{font-style:normal}.key{color:var(--soft)}.key i{display:inline-block;width:26px;height:12px;border-radius:3px;margin-left:10px;"
    ++ (codes "vertical-align:-1px}\n"
    ++ (codes "i.committed{background:var(--good)}.bars i.committed{color:var(--paper)}i.undecided{border:2px dashed var(--open)}"
    ++ (codes "i.aborted{border:1px solid var(--bad);text-decoration:line-through}i.unsettled{border:3px dotted var(--open)}\n"
    ++ (codes ".bars i.older,.key i.older{background:var(--tint);border:1px solid var(--soft);color:var(--ink)}i.undecided.older{border-style:dashed}\n"
    ++ (codes "i.origin{background:var(--soft)}.bars i.origin{top:9px;height:4px}.bars i.floor{width:0;padding:0;border-radius:0}"
    ++ (codes "i.floor{border-left:3px dotted var(--soft)}\n"
    ++ (codes ".row>summary,.axis,.line{display:grid;grid-template-columns:120px minmax(0,1fr);gap:8px;align-items:center;padding:2px 0;"
    ++ (codes "border-bottom:1px solid var(--line)}\n"
    ++ (codes ".row>summary b:before{content:\"\\25b8  \"}.row[open]>summary b:before{content:\"\\25be  \"}.row table{margin-left:16px;width:calc(100% - 16px)}\n"
    ++ (codes ".axis{position:sticky;top:0;background:var(--paper);z-index:1}.axis i{width:auto;color:var(--soft)}\n"
    ++ (codes "i.refused{background:var(--open)}i.withdrawn,i.failed,i.expired,i.spent{background:var(--bad)}i.open{border:2px dotted var(--soft)}"
    ++ (codes ".line .bars i.refused{top:12px;height:11px}.line .bars i.withdrawn,.line .bars i.failed,.line .bars i.expired{top:6px;height:12px}\n"
    ++ (codes ".strip{height:14px;background:var(--tint);border:1px solid var(--soft);margin-top:2px}.strip i{top:0;height:12px;border-radius:0;padding:0}"
    ++ (codes "i.gated{background:var(--good)}i.spoiled{background:var(--open)}i.damaged{background:var(--bad)}\n"
    ++ (codes "@media(max-width:600px){.row>summary,.axis,.line{grid-template-columns:72px minmax(0,1fr)}}\n"
    ++ codes "@media print{.axis{position:static}details::details-content{content-visibility:visible}}\n")))))))))))))))))))

abbrev pub style : List ℕ
style = colours ++ (tables ++ bars)
